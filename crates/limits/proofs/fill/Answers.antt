-- `limits::fill` meets its contract: the operators' side, then the rides'.
use borrow.Author.Rules.{rules}
use native.Mathlib.Omega.{arith}
use Rattle.limits.proofs.Sides.{both_sides}
use Rattle.limits.proofs.fill.Goals as goal

pub returns : goal.returns
returns c = let a = c.args in
    both_sides a.head.operators a.head.rides a.asked.alpha a.asked.beta a.asked.presence.now a.asked.minimums.now a.limits.now _ _ _ (omega arith) (omega (arith, c.requires.2.presence)) (search rules) (search rules)
    (λ u k. c.fill_operators.ensures u (search rules))
    (λ v k. c.fill_rides.ensures v (search rules))
