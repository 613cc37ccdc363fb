-- Inner contracts: a sweep removes the nodes of one side that fall short. One side is the operators or the rides;
-- its nodes are the rows of its table, those of the other side the columns.
use Rattle.std.specs.Prelude.{◌≡◌, Bool, true, false, ◌&&◌, List, ℕ, ◌-◌, ◌≤◌, ◌<◌, ltb, leb, length, get_or, set}
use Rattle.model.specs.Count.{bit, count}
use Rattle.model.specs.Graph.{marked}
use Rattle.graph_tables.specs.Table.{Table, joined}

-- the node i of a side is kept and falls short of the limit
abbrev pub falls : List ℕ → List ℕ → ℕ → ℕ → Bool
falls kept degrees limit i = marked kept i && ltb (get_or degrees i 0) limit

-- what one side needs to be swept: its table, who is kept, 1 or 0, and in others the degrees of the other side's nodes, counted over those kept
pub record Side (t : List ℕ) (w : ℕ) (kept degrees levels others : List ℕ) : Type 0 where
  pub table : Table (joined t w) (length kept) (length others) w t
  pub degrees_long : length kept ≤ length degrees
  pub levels_long : length levels ≡ length kept
  pub bits : (i : ℕ) → i < length kept → get_or kept i 0 ≤ 1
  pub counted : (j : ℕ) → j < length others → get_or others j 0 ≡ count (length kept) (λ i. joined t w i j && marked kept i)

-- one node visited: where it falls short it is removed, gets the level, and its row is subtracted from the others' degrees
pub record SideVisited (t : List ℕ) (w : ℕ) (kept degrees levels others : List ℕ) (limit level i r : ℕ) (kept' levels' others' : List ℕ) : Type 0 where
  pub removed : r ≡ bit (falls kept degrees limit i)
  pub kept_is : kept' ≡ elim (falls kept degrees limit i) [ true ↦ set kept i 0 | false ↦ kept ]
  pub levels_is : levels' ≡ elim (falls kept degrees limit i) [ true ↦ set levels i level | false ↦ levels ]
  pub others_is : (j : ℕ) → j < length others → get_or others' j 0 ≡ get_or others j 0 - bit (falls kept degrees limit i && joined t w i j)

-- the nodes below i swept: those that fell short are removed and have the level, the others' degrees are counted over those kept
pub record SideSwept (t : List ℕ) (w : ℕ) (kept degrees levels : List ℕ) (limit level i r : ℕ) (kept' levels' others' : List ℕ) : Type 0 where
  pub removed : r ≡ count i (falls kept degrees limit)
  pub kept_is : (k : ℕ) → k < i → marked kept' k ≡ (marked kept k && leb limit (get_or degrees k 0))
  pub kept_rest : (k : ℕ) → i ≤ k → get_or kept' k 0 ≡ get_or kept k 0
  pub bits : (k : ℕ) → k < length kept → get_or kept' k 0 ≤ 1
  pub levels_is : (k : ℕ) → k < i → get_or levels' k 0 ≡ elim (falls kept degrees limit k) [ true ↦ level | false ↦ get_or levels k 0 ]
  pub levels_rest : (k : ℕ) → i ≤ k → get_or levels' k 0 ≡ get_or levels k 0
  pub others_is : (j : ℕ) → j < length others' → get_or others' j 0 ≡ count (length kept) (λ k. joined t w k j && marked kept' k)
