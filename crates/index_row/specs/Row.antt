-- Inner contracts: one row of the index, built by raising β: with the nodes kept that cover (α, β - 1) holds,
-- those that fall short of (α, β) are removed, and get level β - 1.
use Rattle.std.specs.Prelude.{◌≡◌, Bool, true, false, ◌&&◌, List, ℕ, ◌+◌, ◌-◌, ◌≤◌, ◌<◌, T, ltb, length, get_or}
use Rattle.model.specs.Count.{count}
use Rattle.model.specs.Graph.{Graph, nodes, degree, everybody, Inside, marked, cover, level}
use Rattle.graph_tables.specs.Table.{Tables, table_graph}

-- the set of the nodes kept, of n operators and the rides
unfoldable pub kept_set : ℕ → List ℕ → List ℕ → ℕ → Bool
kept_set n operators rides x = elim (ltb x n) [ true ↦ marked operators x | false ↦ marked rides (x - n) ]

-- the work lists of a row: for each side who is kept and the degrees inside the nodes kept, and the row's levels
pub record Work : Type 0 where
  pub operators : List ℕ
  pub operator_degrees : List ℕ
  pub rides : List ℕ
  pub ride_degrees : List ℕ
  pub levels : List ℕ

abbrev pub work : List ℕ → List ℕ → List ℕ → List ℕ → List ℕ → Work
work operators operator_degrees rides ride_degrees levels =
    record { operators = operators; operator_degrees = operator_degrees; rides = rides; ride_degrees = ride_degrees; levels = levels }

-- the work lists fit n operators and m rides, and so do the two tables, which hold the same clearances
pub record Fits (n m : ℕ) (by_operator by_ride : List ℕ) (w : Work) : Type 0 where
  pub operators : length w.operators ≡ n
  pub operator_degrees : length w.operator_degrees ≡ n
  pub rides : length w.rides ≡ m
  pub ride_degrees : length w.ride_degrees ≡ m
  pub levels : length w.levels ≡ n + m
  pub tables : Tables (table_graph n m by_operator) by_operator by_ride

-- on the way from cover (α, β - 1) to cover (α, β): the one lies around the nodes kept and the other inside them, degrees are those
-- inside the nodes kept, and whoever is removed has its level; a node is kept by a 1, and removed by a 0
pub record Raising (g : Graph) (α β : ℕ) (w : Work) : Type 0 where
  pub operator_bits : (u : ℕ) → u < g.operators → get_or w.operators u 0 ≤ 1
  pub ride_bits : (v : ℕ) → v < g.rides → get_or w.rides v 0 ≤ 1
  pub operator_degrees : (u : ℕ) → u < g.operators → get_or w.operator_degrees u 0 ≡ count g.rides (λ v. g.cleared u v && marked w.rides v)
  pub ride_degrees : (v : ℕ) → v < g.rides → get_or w.ride_degrees v 0 ≡ count g.operators (λ u. g.cleared u v && marked w.operators u)
  pub holds : Inside g (marked (cover g α β)) (kept_set g.operators w.operators w.rides)
  pub within : 2 ≤ β → Inside g (kept_set g.operators w.operators w.rides) (marked (cover g α (β - 1)))
  pub levels : (x : ℕ) → x < nodes g → (T (kept_set g.operators w.operators w.rides x) → ⊥) → get_or w.levels x 0 ≡ level g α x

-- nobody kept falls short of (α, β)
pub record Settled (g : Graph) (α β : ℕ) (w : Work) : Type 0 where
  pub operators : (u : ℕ) → u < g.operators → T (marked w.operators u) → α ≤ get_or w.operator_degrees u 0
  pub rides : (v : ℕ) → v < g.rides → T (marked w.rides v) → β ≤ get_or w.ride_degrees v 0

-- one round, which removed r operators: where it removed none, nobody falls short any more
pub record Rounded (g : Graph) (α β : ℕ) (operators : List ℕ) (r : ℕ) (w : Work) : Type 0 where
  pub raising : Raising g α β w
  pub fewer : count g.operators (marked w.operators) + r ≡ count g.operators (marked operators)
  pub settled : r ≡ 0 → Settled g α β w

-- r is the lower of low and the degree of a node, where it is kept
pub record Lower (kept degree low r : ℕ) : Type 0 where
  pub low_bound : r ≤ low
  pub degree_bound : kept ≡ 1 → r ≤ degree
  pub lowest : (b : ℕ) → b ≤ low → (kept ≡ 1 → b ≤ degree) → b ≤ r

-- r is the least degree of those kept of a side, or 255 where none is kept
pub record Least (size : ℕ) (kept degrees : List ℕ) (r : ℕ) : Type 0 where
  pub bound : r ≤ 255
  pub low : (v : ℕ) → v < size → T (marked kept v) → r ≤ get_or degrees v 0
  pub lowest : (b : ℕ) → b ≤ 255 → ((v : ℕ) → v < size → T (marked kept v) → b ≤ get_or degrees v 0) → b ≤ r

-- all nodes are kept, and degrees are those inside everybody
pub record Start (g : Graph) (w : Work) : Type 0 where
  pub operators : (u : ℕ) → u < g.operators → T (marked w.operators u)
  pub rides : (v : ℕ) → v < g.rides → T (marked w.rides v)
  pub operator_degrees : (u : ℕ) → u < g.operators → get_or w.operator_degrees u 0 ≡ degree g everybody u
  pub ride_degrees : (v : ℕ) → v < g.rides → get_or w.ride_degrees v 0 ≡ degree g everybody (g.operators + v)
