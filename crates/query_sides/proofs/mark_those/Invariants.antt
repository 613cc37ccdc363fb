-- `query_sides::mark_those` meets its contract. The loop's invariant: the marks below i are set and counted.
use Rattle.std.proofs.Common.{◌≡◌, ◌&&◌, Bool, ℕ, ◌<◌, ◌≤◌, length}
use Rattle.model.specs.Graph.{present}
use Rattle.query_sides.specs.Marked.{Upto}
use Rattle.query_sides.proofs.mark_those.Given as goal

abbrev pub invariant-loop-i : goal.invariant-loop-i
invariant-loop-i g l = (l.count ≤ l.i) ×
    ((test : ℕ → Bool) → ((i : ℕ) → i < length l.presence → (b : Bool) → goal.F-post g l.is_in i b → b ≡ test i) → Upto (λ k. present l.presence k && test k) l.i l.count l.marks)
