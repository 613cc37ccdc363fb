-- `pairs::count_misplaced` meets its contract. The loop's invariant: sum counts those of the first i pairs that are misplaced.
use mathlib.Core.Path.{◌≡◌}
use Prim.Native.Nat.{◌≤◌}
use Rattle.model.specs.Count.{count}
use Rattle.model.specs.Refusal.{misplaced}
use Rattle.pairs.proofs.count_misplaced.Given as goal

abbrev pub invariant-loop-i : goal.invariant-loop-i
invariant-loop-i l = (1 ≤ l.i) × (l.sum ≡ count l.i (misplaced l.head l.operators l.rides))
