-- Inner contracts: clearances as dense tables of bytes, in rows of a fixed width: what the rows of the index and the peel read.
use Rattle.std.specs.Prelude.{◌≡◌, Bool, List, ℕ, ◌+◌, ◌*◌, ◌≤◌, ◌<◌, length, get_or}
use Rattle.model.specs.Count.{bit}
use Rattle.model.specs.Graph.{Graph, marked}

-- t holds the relation r of a rows and b columns: at i × w + j a 1 where r i j holds, else a 0
pub record Table (r : ℕ → ℕ → Bool) (a b w : ℕ) (t : List ℕ) : Type 0 where
  pub wide : b ≤ w
  pub size : a * w ≤ length t
  pub bits : (i j : ℕ) → i < a → j < b → get_or t (i * w + j) 0 ≡ bit (r i j)

-- two tables hold the clearances of g: t by operator in rows of 60 rides, t' by ride in rows of 200 operators
pub record Tables (g : Graph) (t t' : List ℕ) : Type 0 where
  pub by_operator : Table g.cleared g.operators g.rides 60 t
  pub by_ride : Table (λ v u. g.cleared u v) g.rides g.operators 200 t'

-- two tables of zeros, before they are filled
pub record ZeroTables (t t' : List ℕ) : Type 0 where
  pub by_operator_long : length t ≡ 12000
  pub by_ride_long : length t' ≡ 12000
  pub by_operator : (k : ℕ) → get_or t k 0 ≡ 0
  pub by_ride : (k : ℕ) → get_or t' k 0 ≡ 0

-- row i and column j of a table in rows of w are joined
abbrev pub joined : List ℕ → ℕ → ℕ → ℕ → Bool
joined t w i j = marked t (i * w + j)

-- the clearance graph of n operators and m rides that a table by operator holds
abbrev pub table_graph : ℕ → ℕ → List ℕ → Graph
table_graph n m t = record { operators = n; rides = m; cleared = joined t 60 }
