-- `query_marks::mark_both` meets its contract.
use native.Mathlib.Omega.{arith}
use Rattle.query_marks.proofs.Part.{row_part}
use Rattle.query_marks.proofs.Both.{part_long, part_bits, rides_le, both_marked}
use Rattle.query_marks.proofs.mark_both.Goals as goal

pub count_marks-rides-requires : goal.count_marks-rides-requires
count_marks-rides-requires c = let a = c.args in
    let v = c.mark_levels-all in
    let m = row_part a.row.now a.presence.now a.least v.result v.new.marks v.ensures in
    record { marks_len_bound = omega (arith, part_long _ _ a.marks.now a.n _ c.requires.both_sides c.requires.with_marks _ _ m (omega arith), c.requires.few); by_index = part_bits _ _ a.marks.now a.n _ c.requires.both_sides c.requires.with_marks _ _ m (omega arith) }

pub overflow_sub-result : goal.overflow_sub-result
overflow_sub-result c = let a = c.args in
    let v = c.mark_levels-all in
    let m = row_part a.row.now a.presence.now a.least v.result v.new.marks v.ensures in
    rides_le _ _ a.marks.now a.n _ c.requires.both_sides c.requires.with_marks _ _ m (omega arith) c.count_marks-rides.result c.count_marks-rides.ensures

pub returns : goal.returns
returns c = let a = c.args in
    let v = c.mark_levels-all in
    let m = row_part a.row.now a.presence.now a.least v.result v.new.marks v.ensures in
    both_marked _ _ a.marks.now a.n _ c.requires.both_sides c.requires.with_marks _ _ m (omega arith) c.count_marks-rides.result c.count_marks-rides.ensures
