-- `graph_drops::count_short` meets its contract. The loop's invariant: of the first x nodes those that fall short are counted.
use mathlib.Core.Path.{◌≡◌}
use Rattle.model.specs.Count.{count}
use Rattle.graph_drops.specs.Drop.{lacks}
use Rattle.graph_drops.proofs.count_short.Given as goal

abbrev pub invariant-loop-x : goal.invariant-loop-x
invariant-loop-x l = l.short ≡ count l.x (lacks l.degrees l.limits)
