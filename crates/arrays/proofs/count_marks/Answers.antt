-- `arrays::count_marks` meets its contract: marks of 0 and 1 sum to the count of those that are 1.
use Rattle.std.proofs.Common.{rules}
use Rattle.std.proofs.iter.runs.Sources.{sums}
use Rattle.arrays.proofs.Marks.{sum_marks, sum_fits}
use Rattle.arrays.proofs.count_marks.Goals as goal

pub sum-requires-clause-fits : goal.sum-requires-clause-fits
sum-requires-clause-fits c = let fits = sum_fits c.args.marks.now c.requires.by_index c.requires.marks_len_bound in search (rules, sums, fits)

pub returns : goal.returns
returns c = let counted = sum_marks c.args.marks.now c.requires.by_index in search (rules, sums, counted)
