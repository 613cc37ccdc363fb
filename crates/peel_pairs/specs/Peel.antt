-- Inner contracts: what a peel starts from, and what one that is not refused answers and leaves.
use Rattle.std.specs.Prelude.{◌≡◌, List, ℕ, ◌+◌, ◌≤◌, ◌<◌, T, length}
use Rattle.model.specs.declared.Head.{Head}
use Rattle.model.specs.declared.Peeled.{Peeled}
use Rattle.model.specs.Graph.{Graph, nodes, marked}
use Rattle.model.specs.Calls.{PeelOutcome}
use Rattle.graph_degrees.specs.Degrees.{BothDegrees}

-- what a peel of g starts from: its sizes, the degrees in its pairs, and marks for all its nodes; the nodes of each of its pairs are marked
pub record Ready (g : Graph) (h : Head) (operator_degrees ride_degrees marks : List ℕ) : Type 0 where
  pub operators : h.operators ≡ g.operators
  pub rides : h.rides ≡ g.rides
  pub degrees : BothDegrees g operator_degrees ride_degrees
  pub room : nodes g ≤ length marks
  pub within : (u v : ℕ) → u < g.operators → v < g.rides → T (g.cleared u v) → T (marked marks u) × T (marked marks (g.operators + v))

-- the answer and the marks at exit are those of the outcome
pub record Gives (o : PeelOutcome) (r : Peeled) (left : List ℕ) : Type 0 where
  pub answer : r ≡ o.answer
  pub marks : left ≡ o.marks
