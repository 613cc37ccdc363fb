-- `query_marks::mark_row` meets its contract: one loop where both sides have the same least level, else one for each.
use native.Mathlib.Omega.{arith}
use Rattle.query_marks.proofs.Both.{same_least}
use Rattle.query_marks.proofs.mark_row.Goals as goal

pub returns-then-operator_least-ride_least : goal.returns-then-operator_least-ride_least
returns-then-operator_least-ride_least c = same_least (omega arith) c.mark_both.ensures
