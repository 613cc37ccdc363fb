-- `arrays::store` meets its contract. The loop's invariant: the first x words are stored, and differ counts those that differ.
use mathlib.Core.Path.{refl, sym, ap}
use mathlib.Core.Bool.{not}
use Prim.Native.Nat.{ℕ, ◌≤◌}
use native.Mathlib.Omega.{arith}
use lib.Dec.{eqb}
use lib.ListN.{length, get_or}
use Rattle.model.specs.Count.{bit}
use Rattle.model.proofs.Differ.{differing_none, differing_more, differing_le}
use Rattle.model.proofs.Count.{bit_le}
use Rattle.arrays.proofs.Storing.{storing_start, storing_more}
use Rattle.arrays.proofs.store.Goals as goal

pub loop-x-init : goal.loop-x-init
loop-x-init c = (sym (differing_none _ _), storing_start _ _ _ 0 (λ k l. absurd (let z : ⊥ = omega arith in z)))

pub overflow_add-differ : goal.overflow_add-differ
overflow_add-differ c = let l = c.loop-x in
    let one : c.from-differ.result ≤ 1 = rw c.from-differ.ensures (bit_le _) in
    omega (arith, l.invariant.0, differing_le c.args.part.now c.args.row.now l.x, c.requires.1, c.requires.0)

pub loop-x-preserved : goal.loop-x-preserved
loop-x-preserved c = let l = c.loop-x in
    let a = c.args in (
      omega (arith, l.invariant.0, c.from-differ.ensures, ap (λ (z : ℕ). bit (not (eqb z (get_or a.row.now l.x 0)))) (l.invariant.1.ahead l.x (omega arith)), differing_more a.part.now a.row.now l.x),
      storing_more (λ k. get_or a.row.now k 0) (length a.part.now) a.part.now l.part l.x _ l.invariant.1 (omega arith) (omega arith) refl,
    )
