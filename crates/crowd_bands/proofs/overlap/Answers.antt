-- `crowd_bands::overlap` meets its contract. The loop's invariant: none of the first i bands shares a guest count with one before it.
use mathlib.Core.Path.{◌∙◌}
use native.Mathlib.Omega.{arith}
use borrow.Author.Count.{below_more}
use Rattle.crowd_bands.specs.Bands.{shares, at, shares_earlier}
use Rattle.model.proofs.Search.{passes, fails, some_true, some_false}
use Rattle.crowd_bands.proofs.Any.{any_some}
use Rattle.crowd_bands.proofs.overlap.Goals as goal

pub returns-then-shares_one : goal.returns-then-shares_one
returns-then-shares_one c = let b = c.args.bands.now in let i = c.loop-i.i in some_true (shares_earlier b) _ i (omega arith) (passes _ _ (c.shares_one.ensures ∙ any_some (shares (at b i)) b _ i (omega arith)) c.if-shares_one.true)

pub loop-i-preserved : goal.loop-i-preserved
loop-i-preserved c = let b = c.args.bands.now in let i = c.loop-i.i in below_more _ _ c.loop-i.invariant (fails _ _ (c.shares_one.ensures ∙ any_some (shares (at b i)) b _ i (omega arith)) c.if-shares_one.false)

pub returns : goal.returns
returns c = some_false (shares_earlier c.args.bands.now) _ (λ k h. c.loop-i.invariant k (omega arith))
