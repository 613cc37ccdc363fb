-- `graph_tables::subtract` meets its contract. The loop's invariant: the first j differences are stored.
use Prim.Native.Nat.{◌-◌}
use lib.ListN.{length, get_or}
use Rattle.arrays.proofs.Storing.{Storing}
use Rattle.graph_tables.proofs.subtract.Given as goal

abbrev pub invariant-loop-j : goal.invariant-loop-j
invariant-loop-j l = Storing (λ k. get_or l.initial.degrees k 0 - get_or l.row k 0) (length l.initial.degrees) l.initial.degrees l.degrees l.j
