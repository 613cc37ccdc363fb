-- `arrays::copy` meets its contract. The loop's invariant: the first i items are copied.
use mathlib.Core.Path.{ap, ◌∙◌}
use native.Mathlib.Omega.{arith}
use lib.ListN.{set}
use Rattle.arrays.proofs.Copied.{item_copied}
use Rattle.arrays.proofs.copy.Goals as goal

pub loop-i-preserved : goal.loop-i-preserved
loop-i-preserved g c = let a = c.args in let l = c.loop-i in
    ap (λ x. set x l.i c.index-from-i.result) l.invariant ∙ item_copied a.from.now a.to.now l.i c.index-from-i.result (omega arith) (omega arith) c.index-from-i.is
