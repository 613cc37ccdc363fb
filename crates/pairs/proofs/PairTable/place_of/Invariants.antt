-- `pairs::PairTable::place_of` meets its contract. The loop's invariant: the pairs below low are before the one looked for, those from high on are not.
use Prim.Native.Nat.{ℕ, ◌+◌, ◌*◌, ◌≤◌, ◌<◌, ◌-◌}
use lib.ListN.{get_or}
use Rattle.pairs.proofs.PairTable.place_of.Given as goal

abbrev pub invariant-loop-low : goal.invariant-loop-low
invariant-loop-low l = (l.low ≤ l.high) ×
    (l.high ≤ l.initial.high) ×
    ((i : ℕ) → i < l.low → get_or l.self.operators.now i 0 * l.m + get_or l.self.rides.now i 0 < l.number) ×
    ((i : ℕ) → l.high ≤ i → i < l.initial.high → l.number ≤ get_or l.self.operators.now i 0 * l.m + get_or l.self.rides.now i 0)

abbrev pub decreases-loop-low : goal.decreases-loop-low
decreases-loop-low l = l.high - l.low
