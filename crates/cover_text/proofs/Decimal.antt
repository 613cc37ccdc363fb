-- Laws of numbers in base ten.
use mathlib.Core.Path.{◌≡◌, refl, sym, ap, ◌∙◌}
use mathlib.Core.List.{List, [], ◌∷◌, ◌++◌}
use Prim.Native.Nat.{ℕ, zero, suc, ◌/◌, ◌^◌, ◌≤◌, ◌<◌}
use native.Mathlib.Nat.{pow-suc}
use native.Mathlib.Omega.{arith}
use native.Mathlib.Decide.{dec_lt}
use borrow.Author.Tests.{lt-ltb, le-ltb}
use lib.ListN.{length, length-append}
use Rattle.cover_text.specs.Text.{digit, digits, decimal}

-- a number below ten is one digit
digits_one : (f n : ℕ) → n < 10 → digits f n ≡ digit n ∷ []
unfolding digits
digits_one zero n h = refl
digits_one (suc f) n h = rw (lt-ltb n 10 h, digits)

-- another is the digits of its tenth part, and its last digit
digits_more : (f n : ℕ) → 10 ≤ n → digits (suc f) n ≡ digits f (n / 10) ++ (digit n ∷ [])
unfolding digits
digits_more f n h = rw (le-ltb n 10 h, digits)

-- enough steps are enough
digits_enough : (f e n : ℕ) → n ≤ f → n ≤ e → digits f n ≡ digits e n
digits_enough zero e n h l = digits_one 0 n (omega arith) ∙ sym (digits_one e n (omega arith))
digits_enough (suc f) zero n h l = digits_one (suc f) n (omega arith) ∙ sym (digits_one 0 n (omega arith))
digits_enough (suc f) (suc e) n h l =
    elim (dec_lt n 10) [
      | yes s ↦ digits_one (suc f) n s ∙ sym (digits_one (suc e) n s)
      | no s ↦
          digits_more f n (omega arith) ∙
          ap (λ (x : List ℕ). x ++ (digit n ∷ [])) (digits_enough f e (n / 10) (omega arith) (omega arith)) ∙
          sym (digits_more e n (omega arith))
    ]

pub decimal_one : (n : ℕ) → n < 10 → decimal n ≡ digit n ∷ []
unfolding decimal
decimal_one n h = digits_one n n h

pub decimal_more : (n : ℕ) → 10 ≤ n → decimal n ≡ decimal (n / 10) ++ (digit n ∷ [])
unfolding decimal
decimal_more n h =
    digits_enough n (suc n) n (omega arith) (omega arith) ∙
    digits_more n n h ∙
    ap (λ (x : List ℕ). x ++ (digit n ∷ [])) (digits_enough n (n / 10) (n / 10) (omega arith) (omega arith))

-- a number below 10 ^ (k + 1) has at most k + 1 digits
pub decimal_length : (k n : ℕ) → n < 10 ^ suc k → length (decimal n) ≤ suc k
decimal_length zero n h = omega (arith, ap length (decimal_one n h))
decimal_length (suc k) n h =
    elim (dec_lt n 10) [
      | yes s ↦ omega (arith, ap length (decimal_one n s))
      | no s ↦
          omega (
            arith,
            decimal_length k (n / 10) (omega (arith, pow-suc 10 (suc k))),
            ap length (decimal_more n (omega arith)),
            length-append (decimal (n / 10)) (digit n ∷ []),
          )
    ]
