-- `query_sides::mark_from` meets its contract: the test is that a level is above `below`.
use Rattle.std.proofs.Common.{arith, rules, ◌≡◌, ap, ◌&&◌, ℕ, ◌-◌, suc, get_or, ltb, leb}
use Rattle.model.specs.Graph.{present}
use Rattle.query_sides.proofs.Marked.{upto_marked}
use Rattle.query_sides.proofs.mark_from.Goals as goal

pub returns : goal.returns
returns c = let a = c.args in
    let b : suc (a.least - 1) ≡ a.least = omega (arith, c.requires) in
    upto_marked a.levels.now a.presence.now a.least _ _ _ _ (omega (arith, c.requires)) (λ k h. ap (λ (z : ℕ). present a.presence.now k && leb z (get_or a.levels.now k 0)) b)
    (c.mark_those.ensures (λ k. ltb (a.least - 1) (get_or a.levels.now k 0)) (λ k h b e. search rules))
