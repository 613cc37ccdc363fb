-- Everybody on and in: the bytes that say so, and the rows of the graph that tables of all pairs hold.
use mathlib.Core.Path.{◌≡◌, sym, ◌∙◌}
use mathlib.Core.Bool.{and-true}
use mathlib.Core.List.{List}
use Prim.Native.Nat.{ℕ, ◌≤◌}
use native.Mathlib.Omega.{arith}
use lib.ListN.{replicate, get_or-replicate}
use Rattle.model.specs.declared.Head.{Head}
use Rattle.model.specs.Graph.{Graph, nodes, everybody, counting, level, row}
use Rattle.model.specs.Layout.{mark_places}
use Rattle.model.proofs.Count.{values_ext}
use Rattle.model.proofs.Level.{level_same}
use Rattle.graph_tables.specs.Table.{Tables, joined, table_graph}
use Rattle.graph_tables.proofs.Held.{joined_cleared}
use Rattle.graph_degrees.specs.Degrees.{Bytes}

pub everybody_here : (h : Head) → mark_places h ≤ 260 → Bytes h everybody (replicate 260 1)
everybody_here h few = record { long = few; bits = λ x l. get_or-replicate 260 x 1 0 (omega arith) }

pub held_row : (g : Graph) (t t' : List ℕ) → Tables (counting g everybody) t t' → (α : ℕ) → row (table_graph g.operators g.rides t) α ≡ row g α
unfolding row
held_row g t t' tables α =
    values_ext (level (table_graph g.operators g.rides t) α) (level g α) (nodes g)
    (λ x l. level_same g (joined t 60) (λ u v p q. sym (joined_cleared (counting g everybody) t t' tables u v p q ∙ and-true (g.cleared u v))) α x l)
