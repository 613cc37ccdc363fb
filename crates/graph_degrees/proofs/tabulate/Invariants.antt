-- `graph_degrees::tabulate` meets its contract. The loop's invariant: k places are read, and the degree of the last pair's operator is at hand.
use mathlib.Core.Path.{◌≡◌}
use mathlib.Core.Bool.{Bool}
use Prim.Native.Nat.{ℕ}
use lib.ListN.{length, get_or}
use Rattle.pairs.specs.Accepted.{InRange}
use Rattle.graph_degrees.specs.Degrees.{Bytes, ReadUpTo}
use Rattle.graph_degrees.proofs.tabulate.Given as goal

abbrev pub invariant-loop-k : goal.invariant-loop-k
invariant-loop-k l = let t = l.table in
    InRange t.head.pairs t.head.operators t.head.rides t.operators.now t.rides.now ×
    (length l.by_operator ≡ 12000) ×
    (length l.by_ride ≡ 12000) ×
    (l.degree ≡ get_or l.operator_degrees l.last 0) ×
    ((on : ℕ → Bool) → Bytes t.head on l.here → ReadUpTo l.k t.head t.operators.now t.rides.now on l.by_operator l.by_ride l.operator_degrees l.ride_degrees)
