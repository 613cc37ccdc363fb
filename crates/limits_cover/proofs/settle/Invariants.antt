-- `limits_cover::settle` meets its contract. The loop's invariant: only nodes that fell short were dropped; each turn but the last drops one.
use Prim.Native.Nat.{ℕ, ◌+◌}
use Rattle.model.specs.Count.{count}
use Rattle.model.specs.Graph.{Graph, marked}
use Rattle.graph_drops.specs.Drop.{HeldOver}
use Rattle.limits_cover.specs.Cover.{Shrunk}
use Rattle.limits_cover.proofs.settle.Given as goal

abbrev pub invariant-loop : goal.invariant-loop
invariant-loop l = ((g : Graph) (limit : ℕ → ℕ) → HeldOver g limit l.tables l.initial.bytes l.initial.marks →
    Shrunk g limit l.initial.marks l.marks × HeldOver g limit l.tables l.bytes l.marks)

abbrev pub decreases-loop : goal.decreases-loop
decreases-loop l = count (l.tables.operators + l.tables.rides) (marked l.marks)
