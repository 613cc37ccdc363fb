-- `limits::fill_rides` meets its contract. The loop's invariant: the limits of the rides before v are stored.
use mathlib.Core.Bool.{true, false}
use mathlib.Core.Path.{◌≡◌}
use Prim.Native.Nat.{ℕ, ◌<◌}
use Rattle.model.specs.Graph.{present, ride_limit}
use Rattle.limits.specs.Limits.{limit_of}
use Rattle.limits.proofs.fill_rides.Given as goal

abbrev pub invariant-loop-v : goal.invariant-loop-v
invariant-loop-v l = (k : ℕ) → k < l.v → limit_of l.limits k ≡ elim (present l.presence k) [ true ↦ ride_limit l.minimums l.beta k | false ↦ l.high ]
