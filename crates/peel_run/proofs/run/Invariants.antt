-- `peel_run::run` meets its contract. The loop's invariant: the steps taken and the peel from here on make up the peel.
use Prim.Native.Nat.{ℕ}
use mathlib.Core.Path.{◌≡◌}
use Rattle.model.specs.Graph.{Graph}
use Rattle.graph_tables.specs.Table.{Tables}
use Rattle.peel_run.specs.Steps.{StateOf}
use Rattle.peel_run.proofs.Running.{Running}
use Rattle.peel_run.proofs.run.Given as goal

abbrev pub invariant-loop : goal.invariant-loop
invariant-loop l = (l.state.steps ≡ l.counter) × ((g : Graph) (limit : ℕ → ℕ) → Tables g l.by_operator l.by_ride → StateOf g limit l.initial.state l.initial.limits l.initial.marks → Running g limit l.allowed l.initial.marks l.state l.limits l.marks)
