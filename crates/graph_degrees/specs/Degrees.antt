-- Inner contracts, document 02, 2.5: the one reading of a pair table, after each of its places, and the degrees that rows and peels start from.
use Rattle.std.specs.Prelude.{◌≡◌, Bool, List, ℕ, ◌+◌, ◌≤◌, ◌<◌, length, get_or}
use Rattle.model.specs.declared.Head.{Head}
use Rattle.model.specs.Count.{bit}
use Rattle.model.specs.Graph.{Graph, nodes, degree, everybody, counting}
use Rattle.model.specs.Layout.{mark_places, listed, sized}
use Rattle.graph_tables.specs.Table.{Tables, table_graph}

-- a byte for each node: 1 where it is here, else 0
pub record Bytes (h : Head) (here : ℕ → Bool) (bytes : List ℕ) : Type 0 where
  pub long : mark_places h ≤ length bytes
  pub bits : (x : ℕ) → x < mark_places h → get_or bytes x 0 ≡ bit (here x)

-- of the first k pairs of a pair table those that count: both of their nodes are here
abbrev pub first_pairs : Head → List ℕ → List ℕ → (ℕ → Bool) → ℕ → Graph
first_pairs h operators rides here k = counting (sized h (listed k operators rides)) here

-- both arrays, the operators' and the rides', are the degrees in the pairs of g
pub record BothDegrees (g : Graph) (operators rides : List ℕ) : Type 0 where
  pub operators_long : length operators ≡ 200
  pub rides_long : length rides ≡ 60
  pub operator_degrees : (u : ℕ) → u < g.operators → get_or operators u 0 ≡ degree g everybody u
  pub ride_degrees : (v : ℕ) → v < g.rides → get_or rides v 0 ≡ degree g everybody (g.operators + v)

-- Degrees in one pass: after k places of the reading both arrays are the degrees in the first k pairs, of those that count, and both tables hold these
pub record ReadUpTo (k : ℕ) (h : Head) (operators rides : List ℕ) (here : ℕ → Bool) (by_operator by_ride operator_degrees ride_degrees : List ℕ) : Type 0 where
  pub tables : Tables (first_pairs h operators rides here k) by_operator by_ride
  pub degrees : BothDegrees (first_pairs h operators rides here k) operator_degrees ride_degrees

-- what the rows of n operators and m rides are filled from: the two tables, and the degrees in the pairs that they hold
pub record Tabulated (n m : ℕ) (by_operator by_ride operator_degrees ride_degrees : List ℕ) : Type 0 where
  pub tables : Tables (table_graph n m by_operator) by_operator by_ride
  pub degrees : BothDegrees (table_graph n m by_operator) operator_degrees ride_degrees

-- the degrees of the operators, and behind them those of the rides
pub record Joined (of_operators of_rides all : List ℕ) : Type 0 where
  pub operators : (u : ℕ) → u < length of_operators → get_or all u 0 ≡ get_or of_operators u 0
  pub rides : (v : ℕ) → v < length of_rides → get_or all (length of_operators + v) 0 ≡ get_or of_rides v 0

-- one array has the degrees of all nodes in the pairs of g
abbrev pub AllDegrees : Graph → List ℕ → Type 0
AllDegrees g all = (x : ℕ) → x < nodes g → get_or all x 0 ≡ degree g everybody x
