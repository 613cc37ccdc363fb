-- `limits_cover_pairs::count` meets its contract.
use Rattle.limits_cover_pairs.proofs.Counted.{operators_counted, rides_counted, counted}
use Rattle.limits_cover_pairs.proofs.count.Goals as goal

pub count_marks-requires : goal.count_marks-requires
count_marks-requires c =
    let q = operators_counted c.args.head c.args.marks.now c.requires.2 c.requires.0 c.requires.1 c.requires.3 in
    record { marks_len_bound = q.0; by_index = q.1 }

pub count_marks-requires-2 : goal.count_marks-requires-2
count_marks-requires-2 c =
    let q = rides_counted c.args.head c.args.marks.now c.requires.2 c.requires.0 c.requires.1 c.requires.3 in
    record { marks_len_bound = q.0; by_index = q.1 }

pub returns : goal.returns
returns c = counted c.args.head c.args.marks.now c.requires.2 _ _ c.count_marks.ensures c.count_marks-2.ensures
