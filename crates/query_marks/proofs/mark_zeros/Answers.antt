-- `query_marks::mark_zeros` meets its contract.
use Prim.Native.Nat.{ℕ, ◌+◌}
use native.Mathlib.Omega.{arith}
use lib.ListN.{length-replicate}
use Rattle.query_marks.proofs.Part.{zeros_part}
use Rattle.query_marks.proofs.Sides.{sides_marked}
use Rattle.query_marks.proofs.mark_zeros.Goals as goal

pub returns : goal.returns
returns c = let a = c.args in
    let v = c.mark_zeros-marked_operators in
    let w = c.mark_zeros-marked_rides in
    let nodes = a.operators + a.rides in
    sides_marked _ a.presence.now a.marks.now a.operators nodes a.operator_least a.ride_least (length-replicate {A = ℕ} nodes 0) (omega arith) c.requires.3
    v.result v.new.marks (zeros_part nodes _ _ 0 _ _ _ (omega (arith, c.requires.2)) v.ensures) (omega arith)
    w.result w.new.marks (zeros_part nodes _ _ a.operators _ _ _ (omega (arith, c.requires.2)) w.ensures) (omega arith)
