-- `pairs_shift::insert` meets its contract. The loop's invariant: the words below i are those after the insertion, and the carried word is the next.
use mathlib.Core.Path.{◌≡◌}
use Prim.Native.Nat.{◌+◌}
use lib.ListN.{length}
use Rattle.arrays.proofs.Storing.{Storing}
use Rattle.pairs_shift.proofs.Words.{inserted_at}
use Rattle.pairs_shift.proofs.insert.Given as goal

abbrev pub invariant-loop-i : goal.invariant-loop-i
invariant-loop-i l = (length l.array ≡ length l.initial.array) ×
    (l.carried ≡ inserted_at l.initial.array l.place l.word l.i) ×
    Storing (inserted_at l.initial.array l.place l.word) (l.n + 1) l.initial.array l.array l.i
