-- `arrays::fill` meets its contract. The loop's invariant: the items passed have the value, the others are as they came.
use mathlib.Core.Path.{◌≡◌}
use mathlib.Core.List.{◌++◌}
use lib.ListN.{drop}
use Rattle.arrays.proofs.Filled.{front}
use Rattle.arrays.proofs.fill.Given as goal

abbrev pub invariant-loop-item : goal.invariant-loop-item
invariant-loop-item g l = l.item-items ≡ front l.initial.item-items 0 l.value l.item-index ++ drop l.item-index l.initial.item-items
