-- `cover_input::copy_words` meets its contract. The invariant: the first i words are stored.
use mathlib.Core.Path.{◌≡◌, refl, sym, ap₂, ◌∙◌}
use mathlib.Core.List.{List, ◌++◌}
use Prim.Native.Nat.{ℕ, ◌+◌}
use native.Mathlib.Omega.{arith}
use lib.ListN.{length, set, drop, length-set}
use lib.Seq.{take_all}
use Rattle.model.specs.Count.{values}
use Rattle.model.proofs.Count.{length_values, getD_values}
use Rattle.model.proofs.Store.{copied_more}
use Rattle.cover_input.specs.Input.{word}
use Rattle.cover_input.proofs.copy_words.Goals as goal

pub loop-i-init : goal.loop-i-init
loop-i-init c = (refl, refl)

pub loop-i-preserved : goal.loop-i-preserved
loop-i-preserved c =
    let a = c.args in
    let l = c.loop-i in
    let f : ℕ → ℕ = λ k. word a.input.now (a.start + k) in (
      length-set l.to l.i c.word_at.result ∙ l.invariant.0,
      ap₂ (λ (x : List ℕ) (v : ℕ). set x l.i v) l.invariant.1 (c.word_at.ensures ∙ sym (getD_values f a.n l.i 0 (omega arith))) ∙
          copied_more (values a.n f) a.to.now l.i (omega (arith, length_values f a.n)) (omega arith),
    )

pub returns : goal.returns
returns c =
    let a = c.args in
    let l = c.loop-i in
    let f : ℕ → ℕ = λ k. word a.input.now (a.start + k) in
    let e : l.i ≡ length (values a.n f) = omega (arith, length_values f a.n) in
    l.invariant.1 ∙ ap₂ (λ (x : List ℕ) (k : ℕ). x ++ drop k a.to.now) (take_all l.i (values a.n f) (omega (arith, e))) e
