-- A peel is settled exactly where its state has no next node.
use mathlib.Core.Path.{◌≡◌, sym}
use mathlib.Core.Bool.{Bool, true, false, not}
use mathlib.Core.List.{List}
use Prim.Native.Nat.{ℕ}
use native.Mathlib.Omega.{arith}
use Rattle.std.specs.Prelude.{Option, Some, None, is_some}
use Rattle.model.specs.Count.{lowest}
use Rattle.model.specs.Graph.{Graph, nodes, short, settled}
use Rattle.model.proofs.Count.{test_true, test_false}
use Rattle.model.proofs.Peel.{settled_lowest, unsettled_lowest_lt}
use Rattle.graph_drops.specs.Drop.{IsLowest}

pub settled_next : (g : Graph) (limit : ℕ → ℕ) (marks : List ℕ) (next : Option ℕ) (none : Bool) → is_some next ≡ not none → IsLowest next (nodes g) (lowest (nodes g) (short g limit marks)) → none ≡ settled g limit marks
settled_next g limit marks None true e low = sym (test_true (settled g limit marks) (settled_lowest g limit marks (omega arith)))
settled_next g limit marks None false e low = cc
settled_next g limit marks (Some x) true e low = cc
settled_next g limit marks (Some x) false e low = sym (test_false (settled g limit marks) (unsettled_lowest_lt g limit marks (omega (arith, low.0, low.1))))
