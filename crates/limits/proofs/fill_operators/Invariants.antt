-- `limits::fill_operators` meets its contract. The loop's invariant: the limits of the operators before u are stored.
use mathlib.Core.Bool.{true, false}
use mathlib.Core.Path.{◌≡◌}
use Prim.Native.Nat.{ℕ, ◌<◌}
use Rattle.model.specs.Graph.{present}
use Rattle.limits.specs.Limits.{limit_of}
use Rattle.limits.proofs.fill_operators.Given as goal

abbrev pub invariant-loop-u : goal.invariant-loop-u
invariant-loop-u l = (x : ℕ) → x < l.u → limit_of l.limits x ≡ elim (present l.presence x) [ true ↦ l.alpha | false ↦ l.high ]
