-- `limits::bytes` meets its contract. The loop's invariant: the first x bytes are written.
use native.Mathlib.Omega.{arith}
use lib.ListN.{length-set}
use Rattle.model.proofs.Store.{stored}
use Rattle.limits.specs.Limits.{limit_of, byte_limit}
use Rattle.limits.proofs.bytes.Goals as goal

pub loop-x-preserved : goal.loop-x-preserved
unfolding byte_limit
loop-x-preserved c =
    let l = c.loop-x in
    let a = c.args in
    (simp length-set l.invariant.0, stored (byte_limit (limit_of a.limits.now) a.marks.now) l.all l.all l.x _ (omega arith) c.byte.ensures l.invariant.1)
