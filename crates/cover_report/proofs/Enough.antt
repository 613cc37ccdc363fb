-- No byte after the first 48,011 changes the output: an input of that length or more is refused, by its head alone.
use mathlib.Core.Path.{◌≡◌, sym, ap, ap₂, ◌∙◌}
use mathlib.Core.List.{List}
use Prim.Native.Nat.{ℕ, suc, ◌+◌, ◌*◌, ◌≤◌}
use native.Mathlib.Omega.{arith}
use native.Mathlib.Decide.{dec_lt, dec_le}
use borrow.Author.Tests.{lt-ltb, le-ltb, ne_eqb}
use lib.ListN.{length, take}
use lib.Seq.{length-take-le, take_all, get_or-take}
use Rattle.model.specs.declared.Head.{Head}
use Rattle.model.specs.Refusal.{first_number}
use Rattle.pairs.proofs.Place.{product_small}
use Rattle.cover_input.specs.Input.{word, head, size_cases}
use Rattle.cover_report.specs.Program.{cover_text, EnoughRead}
use Rattle.cover_report.proofs.Sizes.{text_refused}

-- the number of a refusal for every such length
refused_long : (h : Head) → (k : ℕ) × ((size : ℕ) → 48011 ≤ size → first_number (size_cases size h) ≡ suc k)
unfolding first_number
refused_long h =
    elim (dec_lt 200 h.operators) [
      | yes a ↦ (0, λ size l. simp (le-ltb size 6 (omega arith), lt-ltb _ _ a))
      | no a ↦
          let n : h.operators ≤ 200 = omega arith in
          elim (dec_lt 60 h.rides) [
            | yes b ↦ (1, λ size l. simp (le-ltb size 6 (omega arith), le-ltb _ _ n, lt-ltb _ _ b))
            | no b ↦
                let m : h.rides ≤ 60 = omega arith in
                elim (dec_lt (h.operators * h.rides) h.pairs) [
                  | yes c ↦ (3, λ size l. simp (le-ltb size 6 (omega arith), le-ltb _ _ n, le-ltb _ _ m, lt-ltb _ _ c))
                  | no c ↦
                      let p : h.pairs ≤ h.operators * h.rides = omega arith in
                      (12, λ size l. simp (le-ltb size 6 (omega arith), le-ltb _ _ n, le-ltb _ _ m, le-ltb _ _ p, ne_eqb size (10 + 4 * h.pairs) (λ e. omega (arith, product_small h.operators h.rides n m))))
                ]
          ]
    ]

module _ (input : List ℕ) where
  word_take : (i : ℕ) → i ≤ 2 → word (take 48011 input) i ≡ word input i
  word_take i l = rw (get_or-take 48011 input (2 * i) 0 (omega arith), get_or-take 48011 input (2 * i + 1) 0 (omega arith))

  head_take : head (take 48011 input) ≡ head input
  head_take = λ k. record { operators = word_take 0 (omega arith) k; rides = word_take 1 (omega arith) k; pairs = word_take 2 (omega arith) k }

  text_long : 48011 ≤ length input → cover_text (take 48011 input) ≡ cover_text input
  text_long l =
      let r = refused_long (head input) in
      sym
      (text_refused (take 48011 input) (suc r.0) (λ e. omega arith)
      (sym (r.1 48011 (omega arith)) ∙ ap₂ (λ (size : ℕ) (h : Head). first_number (size_cases size h)) (sym (length-take-le 48011 input l)) (sym head_take))) ∙
      text_refused input (suc r.0) (λ e. omega arith) (sym (r.1 (length input) l))

pub enough_read : EnoughRead
enough_read input =
    elim (dec_le 48011 (length input)) [
      | yes l ↦ text_long input l
      | no l ↦ ap cover_text (take_all 48011 input (omega arith))
    ]
