-- From rows to the index.
use mathlib.Core.Path.{◌≡◌, sym, ap₂, ◌∙◌}
use mathlib.Core.List.{List}
use Prim.Native.Nat.{ℕ, suc, ◌+◌, ◌≤◌, ◌<◌}
use native.Mathlib.Numerals.{add-one}
use native.Mathlib.Omega.{arith}
use lib.ListN.{length, get_or}
use lib.Seq.{ext_get_or}
use Rattle.model.specs.Count.{values}
use Rattle.model.specs.Graph.{Graph, nodes, degree, everybody, level, row, index_of}
use Rattle.model.proofs.Count.{length_values, getD_values}
use Rattle.model.proofs.Level.{level_laws, index_same}
use Rattle.graph_tables.specs.Table.{Tables, joined, table_graph}
use Rattle.graph_tables.proofs.Held.{joined_cleared}

-- above the largest degree of an operator a row is all 0
pub zero_row : (g : Graph) (α high : ℕ) (od : List ℕ) → high < α → ((u : ℕ) → u < g.operators → get_or od u 0 ≡ degree g everybody u) → ((u : ℕ) → u < g.operators → get_or od u 0 ≤ high) → (l : List ℕ) → length l ≡ nodes g → ((i : ℕ) → i < nodes g → get_or l i 0 ≡ 0) → l ≡ row g α
unfolding row
zero_row g α high od k same few l long zeros =
    ext_get_or 0 l (values (nodes g) (level g α)) (long ∙ sym (length_values (level g α) (nodes g)))
    (λ i h. zeros i (omega arith) ∙ sym (level_laws.above g α (λ u b. omega (arith, same u b, few u b)) i (omega arith)) ∙ sym (getD_values (level g α) (nodes g) i 0 (omega arith)))

-- the row after a rows, as rows of the index count it
pub row_values : (g : Graph) (a w : ℕ) → w ≡ nodes g → (l : List ℕ) → l ≡ row g (a + 1) → l ≡ values w (λ x. level g (suc a) x)
unfolding row
row_values g a w e l h = h ∙ ap₂ (λ (k b : ℕ). values k (λ (x : ℕ). level g b x)) (sym e) (add-one a)

-- the index of the graph that tables hold
pub held_index : (g : Graph) (t t' : List ℕ) → Tables g t t' → index_of (table_graph g.operators g.rides t) ≡ index_of g
held_index g t t' tables = index_same g (joined t 60) (λ u v k l. sym (joined_cleared g t t' tables u v k l))
