-- `pairs_shift::remove` meets its contract. The loop's invariant: the words below i are those after the removal, the others as they came.
use Prim.Native.Nat.{ℕ, ◌+◌, ◌-◌}
use mathlib.Core.Path.{◌≡◌, refl, sym, ◌∙◌}
use native.Mathlib.Omega.{arith}
use lib.ListN.{get_or, length-set}
use Rattle.arrays.proofs.Storing.{storing_start, storing_more}
use Rattle.pairs_shift.proofs.Words.{removed_at, removed_below, removed_above}
use Rattle.pairs_shift.proofs.remove.Goals as goal

pub loop-i-init : goal.loop-i-init
loop-i-init c = let a = c.args in (
  refl,
  storing_start _ _ _ a.place (λ k l. sym (removed_below a.array.now a.place k l)),
)

pub loop-i-preserved : goal.loop-i-preserved
loop-i-preserved c = let a = c.args in
    let l = c.loop-i in
    let f : ℕ → ℕ = removed_at a.array.now a.place in
    let next : ℕ = get_or l.array (l.i + 1) 0 in
    let value : next ≡ f l.i = l.invariant.1.ahead (l.i + 1) (omega arith) ∙ sym (removed_above a.array.now a.place l.i (omega arith)) in (
      simp length-set (omega arith),
      storing_more f a.n a.array.now l.array l.i next l.invariant.1 (omega arith) (omega arith) value,
    )

pub returns : goal.returns
returns c = let a = c.args in
    let l = c.loop-i in
    record {
      below = λ k h. l.invariant.1.done k (omega arith) ∙ removed_below a.array.now a.place k h;
      above = λ k h b. l.invariant.1.done k (omega arith) ∙ removed_above a.array.now a.place k h;
      rest = l.invariant.1.past;
    }
