-- Inner contracts: a peel on its way, by two bytes for each node, its remaining degree and its limit, and a node dropped.
use Rattle.std.specs.Prelude.{◌≡◌, Bool, true, false, ◌&&◌, List, ℕ, ◌+◌, ◌-◌, ◌≤◌, ◌<◌, ltb, leb, length, get_or, set, Option, MatchOption}
use Rattle.model.specs.Count.{some}
use Rattle.model.specs.Graph.{Graph, nodes, degree, marked}
use Rattle.graph_tables.specs.declared.ClearanceTables.{ClearanceTables}
use Rattle.graph_tables.specs.Table.{Tables}
use Rattle.limits.specs.Limits.{byte_limit}
use Rattle.graph_drops.specs.declared.NodeBytes.{NodeBytes}

-- the degree of node x is below its limit
abbrev pub lacks : List ℕ → List ℕ → ℕ → Bool
lacks degrees limits x = ltb (get_or degrees x 0) (get_or limits x 0)

-- r is the lowest of the first k that pass a test, which is low, or none where that is k
abbrev pub IsLowest : Option ℕ → ℕ → ℕ → Type 0
IsLowest r k low = MatchOption r (low ≡ k) (λ x. (x < k) × (x ≡ low))

-- the sizes of g, and the remaining degrees of all operators and rides, which travel with the marks
pub record Remaining (g : Graph) (operators rides : ℕ) (marks degrees : List ℕ) : Type 0 where
  pub operators_are : operators ≡ g.operators
  pub rides_are : rides ≡ g.rides
  pub degrees_long : length degrees ≡ 260
  pub degrees_are : (x : ℕ) → x < nodes g → get_or degrees x 0 ≡ degree g (marked marks) x

-- a peel of g on its way: the remaining degrees, and the limits of those marked in bytes
pub record Held (g : Graph) (limit : ℕ → ℕ) (operators rides : ℕ) (degrees limits marks : List ℕ) : Type 0 where
  pub remaining : Remaining g operators rides marks degrees
  pub room : nodes g ≤ length marks
  pub limits_long : length limits ≡ 260
  pub limits_are : (x : ℕ) → x < nodes g → get_or limits x 0 ≡ byte_limit limit marks x

-- such bytes beside tables of g
pub record HeldOver (g : Graph) (limit : ℕ → ℕ) (tables : ClearanceTables) (bytes : NodeBytes) (marks : List ℕ) : Type 0 where
  pub tables_are : Tables g tables.by_operator.now tables.by_ride.now
  pub held : Held g limit tables.operators tables.rides bytes.degrees bytes.limits marks

-- a row is subtracted from the degrees that start at from
pub record Subtracted (old : List ℕ) (from : ℕ) (row new : List ℕ) : Type 0 where
  pub long : length new ≡ length old
  pub below : (y : ℕ) → y < from → get_or new y 0 ≡ get_or old y 0
  pub within : (i : ℕ) → i < length row → get_or new (from + i) 0 ≡ get_or old (from + i) 0 - get_or row i 0
  pub above : (y : ℕ) → from + length row ≤ y → get_or new y 0 ≡ get_or old y 0

-- node x is dropped: its mark is cleared, and the peel goes on
pub record NodeDropped (g : Graph) (limit : ℕ → ℕ) (operators rides : ℕ) (marks : List ℕ) (x : ℕ) (degrees limits marks' : List ℕ) : Type 0 where
  pub marks_are : marks' ≡ set marks x 0
  pub held : Held g limit operators rides degrees limits marks'

-- where to look on after x was dropped: at x, or at 0 where x is a ride and an operator falls short
unfoldable pub looked_from : List ℕ → List ℕ → ℕ → ℕ → ℕ
looked_from degrees limits operators x = elim (leb operators x && some operators (lacks degrees limits)) [ true ↦ 0 | false ↦ x ]
