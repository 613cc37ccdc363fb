-- `pairs_shift::insert` meets its contract. The loop's invariant: the words below i are those after the insertion, and the carried word is the next.
use mathlib.Core.Path.{◌≡◌, refl, sym, ap, ◌∙◌}
use Prim.Native.Nat.{ℕ, ◌+◌, ◌-◌}
use native.Mathlib.Omega.{arith}
use lib.ListN.{get_or, length-set}
use Rattle.arrays.proofs.Storing.{storing_start, storing_more}
use Rattle.pairs_shift.proofs.Words.{inserted_at, inserted_below, inserted_here, inserted_above}
use Rattle.pairs_shift.proofs.insert.Goals as goal

pub loop-i-init : goal.loop-i-init
loop-i-init c = let a = c.args in (
  refl,
  sym (inserted_here a.array.now a.place a.word a.place refl),
  storing_start _ _ _ a.place (λ k l. sym (inserted_below a.array.now a.place a.word k l)),
)

pub loop-i-preserved : goal.loop-i-preserved
loop-i-preserved c = let a = c.args in
    let l = c.loop-i in
    let f : ℕ → ℕ = inserted_at a.array.now a.place a.word in (
      simp length-set (omega arith),
      l.invariant.2.ahead l.i (omega arith) ∙ sym (inserted_above a.array.now a.place a.word (l.i + 1) (omega arith) ∙ ap (λ (k : ℕ). get_or a.array.now k 0) (let e : l.i + 1 - 1 ≡ l.i = omega arith in e)),
      storing_more f (a.n + 1) a.array.now l.array l.i l.carried l.invariant.2 (omega arith) (omega arith) l.invariant.1,
    )

pub returns : goal.returns
returns c = let a = c.args in
    let l = c.loop-i in
    record {
      below = λ k h. l.invariant.2.done k (omega arith) ∙ inserted_below a.array.now a.place a.word k h;
      here = l.invariant.2.done a.place (omega arith) ∙ inserted_here a.array.now a.place a.word a.place refl;
      above = λ k h b. l.invariant.2.done k (omega arith) ∙ inserted_above a.array.now a.place a.word k h;
      rest = l.invariant.2.past;
    }
