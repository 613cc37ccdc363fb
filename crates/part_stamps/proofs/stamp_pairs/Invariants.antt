-- `part_stamps::stamp_pairs` meets its contract. The loop's invariant: the stamps are those of the first k pairs.
use Prim.Native.Nat.{ℕ, ◌+◌, ◌*◌, ◌<◌}
use mathlib.Core.Path.{◌≡◌}
use lib.ListN.{length, get_or, drop}
use Rattle.pairs.specs.Accepted.{InRange}
use Rattle.model.specs.Layout.{pair_places, listed}
use Rattle.part_stamps.specs.Stamps.{stamp_of}
use Rattle.part_stamps.proofs.stamp_pairs.Given as goal

abbrev pub invariant-loop-k : goal.invariant-loop-k
invariant-loop-k l = let t = l.table in
    InRange t.head.pairs t.head.operators t.head.rides t.operators.now t.rides.now ×
    (length l.stamps ≡ length l.initial.stamps) ×
    ((i j : ℕ) → i < t.head.operators → j < t.head.rides → get_or l.stamps (i * t.head.rides + j) 0 ≡ stamp_of l.start (listed l.k t.operators.now t.rides.now i j)) ×
    (drop (pair_places t.head) l.stamps ≡ drop (pair_places t.head) l.initial.stamps)
