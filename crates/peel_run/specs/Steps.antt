-- Inner contracts: what a state of a peel is, and what its step leaves.
use Rattle.std.specs.Prelude.{◌≡◌, List, ℕ, ◌+◌, ◌≤◌, ◌<◌, length, get_or, set}
use Rattle.peel_run.specs.declared.State.{State}
use Rattle.model.specs.declared.Head.{Head}
use Rattle.model.specs.Count.{lowest}
use Rattle.model.specs.Graph.{Graph, nodes, short}
use Rattle.model.specs.Layout.{mark_places}
use Rattle.limits.specs.Limits.{byte_limit}
use Rattle.graph_drops.specs.Drop.{lacks, IsLowest, Remaining, Held}

-- the first state: no step taken, and the lowest node whose degree is below its limit is dropped next
pub record Started (h : Head) (degrees limits : List ℕ) (r : State) : Type 0 where
  pub operators : r.operators ≡ h.operators
  pub rides : r.rides ≡ h.rides
  pub degrees_are : r.degrees ≡ degrees
  pub steps : r.steps ≡ 0
  pub next : IsLowest r.next (mark_places h) (lowest (mark_places h) (lacks degrees limits))

-- a state of a peel of g: the remaining degrees that travel with the marks, and the node that is dropped next
pub record StateOf (g : Graph) (limit : ℕ → ℕ) (s : State) (limits marks : List ℕ) : Type 0 where
  pub held : Held g limit s.operators s.rides s.degrees limits marks
  pub next : IsLowest s.next (nodes g) (lowest (nodes g) (short g limit marks))

-- such a state with the row of its next node, x, subtracted: the degrees are those without it, and its mark is still to be cleared
pub record Lowered (g : Graph) (limit : ℕ → ℕ) (s : State) (x : ℕ) (limits marks : List ℕ) : Type 0 where
  pub few_operators : g.operators ≤ 200
  pub few_rides : g.rides ≤ 60
  pub remaining : Remaining g s.operators s.rides (set marks x 0) s.degrees
  pub room : nodes g ≤ length marks
  pub limits_long : length limits ≡ 260
  pub limits_are : (x : ℕ) → x < nodes g → get_or limits x 0 ≡ byte_limit limit marks x
  pub next : x ≡ lowest (nodes g) (short g limit marks)

-- one step: r is the next state after s, with the mark of its next node, x, cleared
pub record Stepped (g : Graph) (limit : ℕ → ℕ) (s : State) (x : ℕ) (marks : List ℕ) (r : State) (limits' marks' : List ℕ) : Type 0 where
  pub steps : r.steps ≡ s.steps + 1
  pub marks_are : marks' ≡ set marks x 0
  pub state : StateOf g limit r limits' marks'
