-- `graph_degrees::bytes_of` meets its contract. The loop's invariant: the first x bytes are written.
use mathlib.Core.Path.{◌≡◌}
use mathlib.Core.Bool.{Bool}
use Prim.Native.Nat.{ℕ, ◌<◌}
use lib.ListN.{length, get_or}
use Rattle.model.specs.Count.{bit}
use Rattle.graph_degrees.proofs.bytes_of.Given as goal

abbrev pub invariant-loop-x : goal.invariant-loop-x
invariant-loop-x g l = (length l.here ≡ 260) × ((k : ℕ) → k < l.x → (b : Bool) × goal.F-post g l.is_here k b × (get_or l.here k 0 ≡ bit b))
