-- `limits_cover::sweep` meets its contract. The loop's invariant: the nodes below x are swept.
use Prim.Native.Nat.{ℕ}
use Rattle.model.specs.Graph.{Graph}
use Rattle.graph_drops.specs.Drop.{HeldOver}
use Rattle.limits_cover.specs.Cover.{Swept}
use Rattle.limits_cover.proofs.sweep.Given as goal

abbrev pub invariant-loop-x : goal.invariant-loop-x
invariant-loop-x l = ((g : Graph) (limit : ℕ → ℕ) → HeldOver g limit l.tables l.initial.bytes l.initial.marks →
    Swept g limit l.x l.initial.marks l.dropped l.marks × HeldOver g limit l.tables l.bytes l.marks)
