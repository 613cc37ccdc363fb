-- `query_marks::mark_sides` meets its contract.
use mathlib.Core.Path.{refl}
use native.Mathlib.Omega.{arith}
use Rattle.query_marks.proofs.Part.{levels_part}
use Rattle.query_marks.proofs.Sides.{sides_marked}
use Rattle.query_marks.proofs.mark_sides.Goals as goal

pub returns : goal.returns
returns c = let a = c.args in
    let v = c.mark_levels-operators in
    let w = c.mark_levels-rides in
    sides_marked a.row.now a.presence.now a.marks.now a.n _ a.operator_least a.ride_least refl c.requires.both_sides c.requires.with_marks
    v.result v.new.marks (levels_part _ _ _ 0 _ _ _ (omega (arith, c.requires.both_sides)) v.ensures) (omega arith)
    w.result w.new.marks (levels_part _ _ _ a.n _ _ _ (omega (arith, c.requires.both_sides)) w.ensures) (omega arith)
