-- `part_stamps::missing` meets its contract. The loop's invariant: the pairs at the places passed have stamps.
use Prim.Native.Nat.{ℕ, ◌<◌}
use mathlib.Core.Logic.{◌≢◌}
use lib.ListN.{get_or}
use Rattle.model.specs.Contents.{pair_place}
use Rattle.part_stamps.proofs.missing.Given as goal

abbrev pub invariant-loop-k : goal.invariant-loop-k
invariant-loop-k l = let t = l.table in
    (k : ℕ) → k < l.k → get_or l.stamps (pair_place t.head (get_or t.operators.now k 0) (get_or t.rides.now k 0)) 0 ≢ 0
