-- `limits::bytes` meets its contract. The loop's invariant: the first x bytes are written.
use mathlib.Core.Path.{◌≡◌}
use Prim.Native.Nat.{ℕ, ◌<◌}
use lib.ListN.{length, get_or}
use Rattle.limits.specs.Limits.{limit_of, byte_limit}
use Rattle.limits.proofs.bytes.Given as goal

abbrev pub invariant-loop-x : goal.invariant-loop-x
invariant-loop-x l = (length l.all ≡ 260) × ((k : ℕ) → k < l.x → get_or l.all k 0 ≡ byte_limit (limit_of l.limits) l.marks k)
