-- `graph_drops::lowest_short` meets its contract. The loop's invariant: none of the nodes passed falls short.
use Rattle.model.proofs.Search.{NoneBefore}
use Rattle.graph_drops.specs.Drop.{lacks}
use Rattle.graph_drops.proofs.lowest_short.Given as goal

abbrev pub invariant-loop-x : goal.invariant-loop-x
invariant-loop-x l = NoneBefore (lacks l.degrees l.limits) l.x
