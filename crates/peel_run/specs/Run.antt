-- Inner contracts: what a run of steps leaves.
use Rattle.std.specs.Prelude.{◌≡◌, List, ℕ, length}
use Rattle.model.specs.Graph.{Graph, removals, peel}
use Rattle.peel_run.specs.declared.State.{State}
use Rattle.peel_run.specs.Steps.{StateOf}

-- at most the allowed steps from these marks: r has taken the removals of the definition, and the marks are those that they leave
pub record Ran (g : Graph) (limit : ℕ → ℕ) (allowed : ℕ) (marks : List ℕ) (r : State) (limits' marks' : List ℕ) : Type 0 where
  pub steps : r.steps ≡ length (removals g limit allowed marks)
  pub marks_are : marks' ≡ peel g limit allowed marks
  pub state : StateOf g limit r limits' marks'
