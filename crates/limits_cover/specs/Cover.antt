-- Inner contracts: the cover under a list of limits, found by sweeps that drop whoever falls short.
use Rattle.std.specs.Prelude.{◌≡◌, Bool, true, false, List, ℕ, ◌+◌, ◌≤◌, ◌<◌, T, get_or, set, drop}
use Rattle.model.specs.declared.Head.{Head}
use Rattle.model.specs.Count.{bit}
use Rattle.model.specs.Graph.{Graph, nodes, Inside, Meets, marked, short}
use Rattle.model.specs.CoverLaws.{members}
use Rattle.graph_tables.specs.Table.{Tables}
use Rattle.graph_degrees.specs.Degrees.{BothDegrees}

-- node x visited: where it fell short, its mark is cleared
pub record Visited (g : Graph) (limit : ℕ → ℕ) (marks : List ℕ) (x r : ℕ) (marks' : List ℕ) : Type 0 where
  pub dropped : r ≡ bit (short g limit marks x)
  pub marks_are : marks' ≡ elim (short g limit marks x) [ true ↦ set marks x 0 | false ↦ marks ]

-- from marks to marks' nodes were dropped that fell short, whatever the order: no set that meets the limits lost a node
pub record Shrunk (g : Graph) (limit : ℕ → ℕ) (marks marks' : List ℕ) : Type 0 where
  pub keeps : (t : ℕ → Bool) → Meets g limit t → Inside g t (marked marks) → Inside g t (marked marks')
  pub less : (x : ℕ) → get_or marks' x 0 ≤ get_or marks x 0
  pub tail : drop (nodes g) marks' ≡ drop (nodes g) marks

-- the nodes below x swept: r were dropped, and where none was none of them falls short
pub record Swept (g : Graph) (limit : ℕ → ℕ) (x : ℕ) (marks : List ℕ) (r : ℕ) (marks' : List ℕ) : Type 0 where
  pub shrunk : Shrunk g limit marks marks'
  pub fewer : members g marks' + r ≡ members g marks
  pub same : r ≡ 0 → marks' ≡ marks
  pub nobody : r ≡ 0 → (y : ℕ) → y < x → T (short g limit marks y) → ⊥

-- what a cover of g is found over: its sizes, its tables, and the degrees in its pairs
pub record Over (g : Graph) (h : Head) (by_operator by_ride operator_degrees ride_degrees : List ℕ) : Type 0 where
  pub operators : h.operators ≡ g.operators
  pub rides : h.rides ≡ g.rides
  pub tables : Tables g by_operator by_ride
  pub degrees : BothDegrees g operator_degrees ride_degrees
