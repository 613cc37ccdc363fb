-- `pairs::PairTable::place_of` meets its contract. The loop's invariant: the pairs below low are before the one looked for, those from high on are not.
use Prim.Native.Nat.{ℕ, ◌+◌, ◌-◌, ◌/◌}
use native.Mathlib.Omega.{arith}
use Rattle.pairs.proofs.Place.{number_fits, half_before, half_behind}
use Rattle.pairs.proofs.PairTable.place_of.Goals as goal

pub overflow_mul-self : goal.overflow_mul-self
overflow_mul-self c = let a = c.args in
    let l = c.loop-low in
    let middle : ℕ = l.low + (l.high - l.low) / 2 in
    omega (arith, number_fits a.self.head a.self.operators.now a.self.rides.now a.self.accepted middle (omega arith))

pub overflow_add-self : goal.overflow_add-self
overflow_add-self c = let a = c.args in
    let l = c.loop-low in
    let middle : ℕ = l.low + (l.high - l.low) / 2 in
    omega (arith, number_fits a.self.head a.self.operators.now a.self.rides.now a.self.accepted middle (omega arith))

pub loop-low-preserved-then-self-middle : goal.loop-low-preserved-then-self-middle
loop-low-preserved-then-self-middle c = let a = c.args in
    let l = c.loop-low in
    let middle : ℕ = l.low + (l.high - l.low) / 2 in
    (omega arith, omega arith, half_before a.self.head a.self.operators.now a.self.rides.now a.self.accepted middle _ (omega arith) (omega arith), l.invariant.3)

pub loop-low-preserved : goal.loop-low-preserved
loop-low-preserved c = let a = c.args in
    let l = c.loop-low in
    let middle : ℕ = l.low + (l.high - l.low) / 2 in
    (omega arith, omega arith, l.invariant.2, half_behind a.self.head a.self.operators.now a.self.rides.now a.self.accepted middle _ (omega arith))
