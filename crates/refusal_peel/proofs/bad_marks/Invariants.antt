-- `refusal_peel::bad_marks` meets its contract. The loop's invariant: the first i marks are 0 or 1.
use Prim.Native.Nat.{ℕ, ◌≤◌, ◌<◌}
use lib.ListN.{get_or}
use Rattle.refusal_peel.proofs.bad_marks.Given as goal

abbrev pub invariant-loop-i : goal.invariant-loop-i
invariant-loop-i l = (k : ℕ) → k < l.i → get_or l.marks k 0 ≤ 1
