-- Laws of tests, of counting, of the lowest number that passes, and of lists of values.
use mathlib.Core.Path.{◌≡◌, refl, sym, ap, ap₂, ◌∙◌, subst}
use mathlib.Core.Logic.{◌≢◌}
use mathlib.Core.Bool.{Bool, true, false, ◌&&◌, ◌||◌, not}
use mathlib.Core.List.{List, [], ◌∷◌, ◌++◌}
use Prim.Native.Nat.{ℕ, zero, suc, ◌+◌, ◌-◌, ◌*◌, ◌≤◌, ◌<◌}
use native.Mathlib.Nat.{suc-mul, add-zero, add-suc}
use native.Mathlib.Numerals.{add-one}
use native.Mathlib.Omega.{arith}
use native.Mathlib.Decide.{dec_lt, ℕ_discrete}
use lib.Dec.{T, ltb, eqb, ltb→lt, lt→ltb}
use borrow.Author.Tests.{lt-ltb, le-ltb}
use lib.Arith.{digits_lt}
use lib.Bits.{bit_and}
use lib.ListN.{length, get_or, length-append, get_or-append}
use lib.Seq.{get_or-append-add, get_or-append_seam}
use Rattle.model.specs.Count.{bit, count, some, lowest, values, rows}

-- ---- tests

-- a test passes or fails
pub by_test {ℓ} : {C : Type ℓ} (b : Bool) → (T b → C) → ((T b → ⊥) → C) → C
by_test true f g = f tt
by_test false f g = g (λ t. t)

pub test_true : (b : Bool) → T b → b ≡ true
test_true true t = refl
test_true false t = absurd t

pub test_false : (b : Bool) → (T b → ⊥) → b ≡ false
test_false true f = absurd (f tt)
test_false false f = refl

-- two tests that follow from each other are equal
pub test_ext : (a b : Bool) → (T a → T b) → (T b → T a) → a ≡ b
test_ext a b f g = by_test a (λ t. test_true a t ∙ sym (test_true b (f t))) (λ n. test_false a n ∙ sym (test_false b (λ t. n (g t))))

pub and_left : (a b : Bool) → T (a && b) → T a
and_left true b t = tt
and_left false b t = t

pub and_right : (a b : Bool) → T (a && b) → T b
and_right true b t = t
and_right false b t = absurd t

pub and_both : (a b : Bool) → T a → T b → T (a && b)
and_both true b s t = t
and_both false b s t = absurd s

pub or_left : (a b : Bool) → T a → T (a || b)
or_left true b t = tt
or_left false b t = absurd t

pub or_right : (a b : Bool) → T b → T (a || b)
or_right true b t = tt
or_right false b t = t

-- what follows from each of two tests follows from one of them
pub or_cases {ℓ} : {C : Type ℓ} (a b : Bool) → T (a || b) → (T a → C) → (T b → C) → C
or_cases true b t f g = f tt
or_cases false b t f g = g t

pub and_true : (a : Bool) → (a && true) ≡ a
and_true true = refl
and_true false = refl

pub and_false : (a b : Bool) → b ≡ false → (a && b) ≡ false
and_false true b e = e
and_false false b e = refl

-- two tests that agree where a third one passes agree beside it
pub and_same_left : (a b s : Bool) → (T s → a ≡ b) → (a && s) ≡ (b && s)
and_same_left a b true f = ap (λ (z : Bool). z && true) (f tt)
and_same_left a b false f = and_false a false refl ∙ sym (and_false b false refl)

pub and_same_right : (s a b : Bool) → (T s → a ≡ b) → (s && a) ≡ (s && b)
and_same_right true a b f = f tt
and_same_right false a b f = refl

pub or_false : (a : Bool) → (a || false) ≡ a
or_false true = refl
or_false false = refl

-- a mark made of a test
pub bit_test : (b : Bool) → eqb (bit b) 1 ≡ b
bit_test true = refl
bit_test false = refl

-- a test whose bit is 0 fails
pub bit_zero : (b : Bool) → bit b ≡ 0 → T (not b)
bit_zero true e = absurd (let z : ⊥ = omega arith in z)
bit_zero false e = tt

-- a number up to 1 is a bit
pub bit_of : (x : ℕ) → x ≤ 1 → x ≡ bit (eqb x 1)
bit_of zero h = refl
bit_of (suc zero) h = refl
bit_of (suc (suc x)) h = absurd (let z : ⊥ = omega arith in z)

-- what two bits have in common
pub bits_and : (a b : Bool) → bit_and (bit a) (bit b) ≡ bit (a && b)
bits_and true true = refl
bits_and true false = refl
bits_and false true = refl
bits_and false false = refl

pub bit_le : (b : Bool) → bit b ≤ 1
bit_le true = omega arith
bit_le false = omega arith

bit_mono : (a b : Bool) → (T a → T b) → bit a ≤ bit b
bit_mono true true f = omega arith
bit_mono true false f = absurd (f tt)
bit_mono false b f = omega arith

-- ---- count

module _ (p : ℕ → Bool) where
  pub count_le : (k : ℕ) → count k p ≤ k
  unfolding count
  count_le zero = omega arith
  count_le (suc k) = omega (arith, count_le k, bit_le (p k))

  pub count_none : count 0 p ≡ 0
  unfolding count
  count_none = refl

  -- one number more
  pub count_more : (k : ℕ) → count (k + 1) p ≡ count k p + bit (p k)
  unfolding count
  count_more k = ap (λ (n : ℕ). count n p) (add-one k)

  -- a first part, and the part behind it
  pub count_append : (k j : ℕ) → count (k + j) p ≡ count k p + count j (λ i. p (k + i))
  unfolding count
  count_append k zero = ap (λ (n : ℕ). count n p) (add-zero k) ∙ sym (add-zero (count k p))
  count_append k (suc j) = ap (λ (n : ℕ). count n p) (add-suc k j) ∙ (let e = count_append k j in let r : count (k + j) p + bit (p (k + j)) ≡ count k p + (count j (λ i. p (k + i)) + bit (p (k + j))) = omega (arith, e) in r)

  -- a number that passes is counted
  pub count_pos : (k y : ℕ) → y < k → T (p y) → 0 < count k p
  unfolding count
  count_pos zero y h t = absurd (let z : ⊥ = omega arith in z)
  count_pos (suc k) y h t =
      elim (dec_lt y k) [
        | yes l ↦ omega (arith, count_pos k y l t)
        | no l ↦ (let e : y ≡ k = omega arith in omega (arith, ap bit (test_true (p k) (subst (λ (z : ℕ). T (p z)) e t))))
      ]

  pub count_all : (k : ℕ) → ((y : ℕ) → y < k → T (p y)) → count k p ≡ k
  unfolding count
  count_all zero f = refl
  count_all (suc k) f = omega (arith, count_all k (λ y h. f y (omega arith)), ap bit (test_true (p k) (f k (omega arith))))

  -- where some are counted, one passes
  pub count_witness : (k : ℕ) → 0 < count k p → (y : ℕ) × (y < k) × T (p y)
  unfolding count
  count_witness zero h = absurd (let z : ⊥ = omega arith in z)
  count_witness (suc k) h =
      by_test (p k)
      (λ t. (k, omega arith, t))
      (λ n. let w = count_witness k (omega (arith, ap bit (test_false (p k) n))) in (w.0, omega (arith, w.1), w.2))

  -- two numbers that pass are counted, and where two are counted two pass
  pub count_two : (k i j : ℕ) → i < j → j < k → T (p i) → T (p j) → 1 < count k p
  count_two k i j l h s t =
      let e : k ≡ j + 1 + (k - (j + 1)) = omega arith in
      omega (arith, count_pos j i l s, count_more j, ap bit (test_true (p j) t), ap (λ (n : ℕ). count n p) e, count_append (j + 1) (k - (j + 1)))

  pub count_two_witness : (k : ℕ) → 1 < count k p → (i : ℕ) × (j : ℕ) × (i < j) × (j < k) × T (p i) × T (p j)
  unfolding count
  count_two_witness zero h = absurd (let z : ⊥ = omega arith in z)
  count_two_witness (suc k) h =
      by_test (p k)
      (λ t. let w = count_witness k (omega (arith, bit_le (p k))) in (w.0, k, w.1, omega arith, w.2, t))
      (λ n. let w = count_two_witness k (omega (arith, ap bit (test_false (p k) n))) in (w.0, w.1, w.2, omega (arith, w.3), w.4, w.5))

  pub count_zero : (k : ℕ) → ((y : ℕ) → y < k → T (p y) → ⊥) → count k p ≡ 0
  count_zero k f = elim (dec_lt 0 (count k p)) [ yes l ↦ (let w = count_witness k l in absurd (f w.0 w.1 w.2)) | no l ↦ omega arith ]

  pub some_holds : (k y : ℕ) → y < k → T (p y) → T (some k p)
  unfolding some
  some_holds k y h t = lt→ltb 0 (count k p) (count_pos k y h t)

  pub some_witness : (k : ℕ) → T (some k p) → (y : ℕ) × (y < k) × T (p y)
  unfolding some
  some_witness k t = count_witness k (ltb→lt 0 (count k p) t)

pub count_mono : (p q : ℕ → Bool) (k : ℕ) → ((y : ℕ) → y < k → T (p y) → T (q y)) → count k p ≤ count k q
unfolding count
count_mono p q zero f = omega arith
count_mono p q (suc k) f =
    omega (arith, count_mono p q k (λ y h. f y (omega arith)), bit_mono (p k) (q k) (f k (omega arith)))

module _ (p q : ℕ → Bool) where
  pub count_ext : (k : ℕ) → ((y : ℕ) → y < k → p y ≡ q y) → count k p ≡ count k q
  count_ext k f =
      omega (
        arith,
        count_mono p q k (λ y h t. subst T (f y h) t),
        count_mono q p k (λ y h t. subst T (sym (f y h)) t),
      )

  -- where all but one number that pass p pass q
  pub count_but_one : (u k : ℕ) → ((y : ℕ) → y < k → y ≢ u → T (p y) → T (q y)) → count k p ≤ count k q + 1
  unfolding count
  count_but_one u zero f = omega arith
  count_but_one u (suc k) f =
      elim (ℕ_discrete k u) [
        | yes e ↦ omega (arith, count_mono p q k (λ y h. f y (omega arith) (omega arith)), bit_le (p k))
        | no n ↦ omega (arith, count_but_one u k (λ y h. f y (omega arith)), bit_mono (p k) (q k) (f k (omega arith) n))
      ]

  -- where all that pass q pass p, and x passes p alone
  pub count_less : (x k : ℕ) → ((y : ℕ) → y < k → T (q y) → T (p y)) → x < k → T (p x) → (T (q x) → ⊥) → count k q < count k p
  unfolding count
  count_less x zero f h t n = absurd (let z : ⊥ = omega arith in z)
  count_less x (suc k) f h t n =
      elim (ℕ_discrete k x) [
        | yes e ↦
            omega (
              arith,
              count_mono q p k (λ y l. f y (omega arith)),
              ap bit (test_true (p k) (subst (λ (z : ℕ). T (p z)) (sym e) t)),
              ap bit (test_false (q k) (λ s. n (subst (λ (z : ℕ). T (q z)) e s))),
            )
        | no d ↦ omega (arith, count_less x k (λ y l. f y (omega arith)) (omega arith) t n, bit_mono (q k) (p k) (f k (omega arith)))
      ]

  -- where x alone stops to pass
  pub count_without : (x k : ℕ) → ((y : ℕ) → y < k → y ≢ x → p y ≡ q y) → x < k → (T (q x) → ⊥) → count k p ≡ count k q + bit (p x)
  unfolding count
  count_without x zero f h n = absurd (let z : ⊥ = omega arith in z)
  count_without x (suc k) f h n =
      elim (ℕ_discrete k x) [
        | yes e ↦
            omega (
              arith,
              count_ext k (λ y l. f y (omega arith) (omega arith)),
              ap (λ (z : ℕ). bit (p z)) e,
              ap bit (test_false (q k) (λ t. n (subst (λ (z : ℕ). T (q z)) e t))),
            )
        | no d ↦ omega (arith, count_without x k (λ y l. f y (omega arith)) (omega arith) n, ap bit (f k (omega arith) d))
      ]

-- where each number that passes r passes one of p and q
pub count_add : (p q r : ℕ → Bool) (k : ℕ) → ((y : ℕ) → y < k → bit (p y) + bit (q y) ≡ bit (r y)) → count k p + count k q ≡ count k r
unfolding count
count_add p q r zero f = refl
count_add p q r (suc k) f = omega (arith, count_add p q r k (λ y h. f y (omega arith)), f k (omega arith))

-- ---- the lowest

module _ (p : ℕ → Bool) where
  lowest_found : (k : ℕ) → lowest k p < k → lowest (suc k) p ≡ lowest k p
  unfolding lowest
  lowest_found k h = rw (lt-ltb (lowest k p) k h, lowest)

  lowest_next : (k : ℕ) → k ≤ lowest k p → lowest (suc k) p ≡ k + bit (not (p k))
  unfolding lowest
  lowest_next k h = rw (le-ltb (lowest k p) k h, lowest)

  pub lowest_le : (k : ℕ) → lowest k p ≤ k
  unfolding lowest
  lowest_le zero = omega arith
  lowest_le (suc k) =
      elim (dec_lt (lowest k p) k) [
        | yes h ↦ omega (arith, lowest_found k h)
        | no h ↦ omega (arith, lowest_next k (omega arith), bit_le (not (p k)))
      ]

  -- none below the lowest passes
  pub lowest_least : (k y : ℕ) → y < lowest k p → T (p y) → ⊥
  unfolding lowest
  lowest_least zero y h t = omega arith
  lowest_least (suc k) y h t =
      elim (dec_lt (lowest k p) k) [
        | yes l ↦ lowest_least k y (omega (arith, lowest_found k l)) t
        | no l ↦
            elim (dec_lt y k) [
              | yes b ↦ lowest_least k y (omega arith) t
              | no b ↦ (let e : y ≡ k = omega (arith, lowest_le (suc k)) in omega (arith, lowest_next k (omega arith), ap (λ (z : Bool). bit (not z)) (test_true (p k) (subst (λ (z : ℕ). T (p z)) e t))))
            ]
      ]

  -- where the lowest is below the end, it passes
  pub lowest_passes : (k : ℕ) → lowest k p < k → T (p (lowest k p))
  unfolding lowest
  lowest_passes zero h = absurd (let z : ⊥ = omega arith in z)
  lowest_passes (suc k) h =
      elim (dec_lt (lowest k p) k) [
        | yes l ↦ subst (λ (z : ℕ). T (p z)) (sym (lowest_found k l)) (lowest_passes k l)
        | no l ↦
            by_test (p k)
            (λ t. subst (λ (z : ℕ). T (p z)) (let e : k ≡ lowest (suc k) p = omega (arith, lowest_next k (omega arith), ap (λ (z : Bool). bit (not z)) (test_true (p k) t)) in e) t)
            (λ n. absurd (let z : ⊥ = omega (arith, lowest_next k (omega arith), ap (λ (z : Bool). bit (not z)) (test_false (p k) n)) in z))
      ]

  -- where one passes, the lowest is below the end
  pub lowest_lt : (k y : ℕ) → y < k → T (p y) → lowest k p < k
  lowest_lt k y h t = elim (dec_lt (lowest k p) k) [ yes l ↦ l | no l ↦ absurd (lowest_least k y (omega arith) t) ]

  -- it is the only number up to the end with none below it that passes, and which passes or is the end
  pub lowest_only : (k x : ℕ) → x ≤ k → ((y : ℕ) → y < x → T (p y) → ⊥) → (x < k → T (p x)) → lowest k p ≡ x
  lowest_only k x h least passes =
      elim (dec_lt (lowest k p) x) [
        | yes l ↦ absurd (least (lowest k p) l (lowest_passes k (omega arith)))
        | no l ↦
            elim (dec_lt x (lowest k p)) [
              | yes b ↦ absurd (lowest_least k x b (passes (omega (arith, lowest_le k))))
              | no b ↦ omega arith
            ]
      ]

module _ (p q : ℕ → Bool) (k : ℕ) (same : (y : ℕ) → y < k → p y ≡ q y) where
  pub lowest_ext : lowest k p ≡ lowest k q
  lowest_ext =
      lowest_only p k (lowest k q)
      (lowest_le q k)
      (λ y l t. lowest_least q k y l (subst T (same y (omega (arith, lowest_le q k))) t))
      (λ l. subst T (sym (same (lowest k q) l)) (lowest_passes q k l))

  pub some_ext : some k p ≡ some k q
  unfolding some
  some_ext = ap (ltb 0) (count_ext p q k same)

-- ---- values and rows

module _ (f : ℕ → ℕ) where
  pub length_values : (k : ℕ) → length (values k f) ≡ k
  unfolding values
  length_values zero = refl
  length_values (suc k) = length-append (values k f) (f k ∷ []) ∙ (let e : length (values k f) + 1 ≡ suc k = omega (arith, length_values k) in e)

  pub getD_values : (k i d : ℕ) → i < k → get_or (values k f) i d ≡ f i
  unfolding values
  getD_values zero i d h = absurd (let z : ⊥ = omega arith in z)
  getD_values (suc k) i d h =
      elim (dec_lt i k) [
        | yes l ↦ get_or-append (values k f) (f k ∷ []) d i (omega (arith, length_values k)) ∙ getD_values k i d l
        | no l ↦ (let e : i ≡ length (values k f) = omega (arith, length_values k) in rw (e, get_or-append_seam, length_values k))
      ]

pub values_ext : (f g : ℕ → ℕ) (k : ℕ) → ((i : ℕ) → i < k → f i ≡ g i) → values k f ≡ values k g
unfolding values
values_ext f g zero h = refl
values_ext f g (suc k) h = ap₂ (λ (xs : List ℕ) (y : ℕ). xs ++ (y ∷ [])) (values_ext f g k (λ i l. h i (omega arith))) (h k (omega arith))

module _ (w : ℕ) (f : ℕ → ℕ → ℕ) where
  pub length_rows : (k : ℕ) → length (rows k w f) ≡ k * w
  unfolding rows
  length_rows zero = omega arith
  length_rows (suc k) = length-append (rows k w f) (values w (f k)) ∙ omega (arith, length_rows k, length_values (f k) w, suc-mul k w)

  last_row : (k j d : ℕ) → j < w → get_or (rows k w f ++ values w (f k)) (k * w + j) d ≡ f k j
  last_row k j d l =
      subst (λ (n : ℕ). get_or (rows k w f ++ values w (f k)) (n + j) d ≡ f k j) (length_rows k)
      (get_or-append-add (rows k w f) (values w (f k)) j d ∙ getD_values (f k) w j d l)

  pub get_d_rows : (k i j d : ℕ) → i < k → j < w → get_or (rows k w f) (i * w + j) d ≡ f i j
  unfolding rows
  get_d_rows zero i j d h l = absurd (let z : ⊥ = omega arith in z)
  get_d_rows (suc k) i j d h l =
      elim (dec_lt i k) [
        | yes b ↦ get_or-append (rows k w f) (values w (f k)) d (i * w + j) (subst (λ (n : ℕ). i * w + j < n) (sym (length_rows k)) (digits_lt b l)) ∙ get_d_rows k i j d b l
        | no b ↦ (let e : i ≡ k = omega arith in rw e (last_row k j d l))
      ]

pub rows_ext : (w : ℕ) (f g : ℕ → ℕ → ℕ) (k : ℕ) → ((i j : ℕ) → i < k → j < w → f i j ≡ g i j) → rows k w f ≡ rows k w g
unfolding rows
rows_ext w f g zero h = refl
rows_ext w f g (suc k) h =
    ap₂ ◌++◌ (rows_ext w f g k (λ i j l. h i j (omega arith))) (values_ext (f k) (g k) w (λ j. h k j (omega arith)))
