-- `arrays::store` meets its contract. The loop's invariant: the first x words are stored, and differ counts those that differ.
use Rattle.model.specs.Layout.{differing}
use mathlib.Core.Path.{◌≡◌}
use lib.ListN.{length, get_or}
use Rattle.arrays.proofs.Storing.{Storing}
use Rattle.arrays.proofs.store.Given as goal

abbrev pub invariant-loop-x : goal.invariant-loop-x
invariant-loop-x l = (l.differ ≡ differing l.x l.initial.part l.row) ×
    Storing (λ k. get_or l.row k 0) (length l.initial.part) l.initial.part l.part l.x
