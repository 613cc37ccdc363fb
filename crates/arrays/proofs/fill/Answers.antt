-- `arrays::fill` meets its contract. The loop's invariant: the items passed have the value, the others are as they came.
use mathlib.Core.Path.{ap, ◌∙◌}
use native.Mathlib.Omega.{arith}
use lib.ListN.{set}
use Rattle.arrays.proofs.Filled.{fill_more}
use Rattle.arrays.proofs.fill.Goals as goal

pub loop-item-preserved : goal.loop-item-preserved
loop-item-preserved g c = let a = c.args in let l = c.loop-item in
    ap (λ x. set x l.item-index a.value) l.invariant ∙ fill_more _ 0 a.value l.item-index (omega arith) (omega arith)
