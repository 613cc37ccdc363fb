-- `pairs_shift::remove` meets its contract. The loop's invariant: the words below i are those after the removal, the others as they came.
use mathlib.Core.Path.{◌≡◌}
use lib.ListN.{length}
use Rattle.arrays.proofs.Storing.{Storing}
use Rattle.pairs_shift.proofs.Words.{removed_at}
use Rattle.pairs_shift.proofs.remove.Given as goal

abbrev pub invariant-loop-i : goal.invariant-loop-i
invariant-loop-i l = (length l.array ≡ length l.initial.array) ×
    Storing (removed_at l.initial.array l.place) l.n l.initial.array l.array l.i
