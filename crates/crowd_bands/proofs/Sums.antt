-- Numbers added up over 0 .. n - 1, and how many lie in an interval.
use mathlib.Core.Path.{◌≡◌, refl, ap, ◌∙◌}
use mathlib.Core.Bool.{Bool, ◌&&◌}
use Prim.Native.Nat.{ℕ, zero, suc, ◌+◌, ◌-◌, ◌≤◌, ◌<◌, min}
use native.Mathlib.Omega.{arith}
use native.Mathlib.Decide.{dec_lt, ℕ_discrete}
use lib.Dec.{leb, le→leb, leb→le}
use Rattle.model.specs.Count.{bit, count}
use Rattle.model.proofs.Count.{by_test, test_true, test_false, and_left, and_right, and_both}

-- f 0 + .. + f (n - 1)
unfoldable pub sum : ℕ → (ℕ → ℕ) → ℕ
sum zero f = 0
sum (suc n) f = sum n f + f n

-- of numbers that are 0 each, the sum is 0
pub sum_zero : (f : ℕ → ℕ) (n : ℕ) → ((x : ℕ) → f x ≡ 0) → sum n f ≡ 0
unfolding sum
sum_zero f zero z = refl
sum_zero f (suc n) z = omega (arith, sum_zero f n z, z n)

-- a number that is a bit more in each place
pub sum_more : (f g : ℕ → ℕ) (p : ℕ → Bool) (n : ℕ) → ((x : ℕ) → g x ≡ f x + bit (p x)) → sum n g ≡ sum n f + count n p
unfolding sum count
sum_more f g p zero e = refl
sum_more f g p (suc n) e = omega (arith, sum_more f g p n e, e n)

-- of numbers up to 1 the sum is n where all are 1, and less where one is 0
pub sum_ones : (f : ℕ → ℕ) (n : ℕ) → ((x : ℕ) → x < n → f x ≡ 1) → sum n f ≡ n
unfolding sum
sum_ones f zero e = refl
sum_ones f (suc n) e = omega (arith, sum_ones f n (λ x h. e x (omega arith)), e n (omega arith))

sum_le : (f : ℕ → ℕ) (n : ℕ) → ((x : ℕ) → x < n → f x ≤ 1) → sum n f ≤ n
unfolding sum
sum_le f zero e = omega arith
sum_le f (suc n) e = omega (arith, sum_le f n (λ x h. e x (omega arith)), e n (omega arith))

pub sum_less : (f : ℕ → ℕ) (n y : ℕ) → ((x : ℕ) → x < n → f x ≤ 1) → y < n → f y ≡ 0 → sum n f < n
unfolding sum
sum_less f zero y e h z = absurd (let q : ⊥ = omega arith in q)
sum_less f (suc n) y e h z =
    elim (ℕ_discrete y n) [
      | yes q ↦ omega (arith, sum_le f n (λ x l. e x (omega arith)), ap f q, z)
      | no q ↦ omega (arith, sum_less f n y (λ x l. e x (omega arith)) (omega arith) z, e n (omega arith))
    ]

-- how many of 0 .. n - 1 lie between a and b
pub count_between : (a b n : ℕ) → a ≤ b → b < n → count n (λ x. leb a x && leb x b) ≡ suc b - a
unfolding count
count_between a b n h l = up_to n ∙ (let e : min n (suc b) - a ≡ suc b - a = omega arith in e)
  where
    up_to : (k : ℕ) → count k (λ x. leb a x && leb x b) ≡ min k (suc b) - a
    up_to zero = omega arith
    up_to (suc k) =
        by_test (leb a k && leb k b)
        (λ t. omega (arith, up_to k, ap bit (test_true (leb a k && leb k b) t), leb→le a k (and_left (leb a k) (leb k b) t), leb→le k b (and_right (leb a k) (leb k b) t)))
        (λ t.
        elim (dec_lt k a) [
          | yes q ↦ omega (arith, up_to k, ap bit (test_false (leb a k && leb k b) t))
          | no q ↦
              elim (dec_lt b k) [
                | yes r ↦ omega (arith, up_to k, ap bit (test_false (leb a k && leb k b) t))
                | no r ↦ absurd (t (and_both (leb a k) (leb k b) (le→leb a k (omega arith)) (le→leb k b (omega arith))))
              ]
        ])
