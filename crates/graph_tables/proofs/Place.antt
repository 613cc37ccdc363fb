-- Places of a dense table: two places are the same only where row and column are, and storing at one adds its pair.
use mathlib.Core.Path.{◌≡◌, refl, sym, ap, ap₂, ◌∙◌, subst}
use mathlib.Core.Bool.{Bool, true, false}
use mathlib.Core.List.{List}
use Prim.Native.Nat.{ℕ, ◌+◌, ◌*◌, ◌/◌, ◌%◌, ◌≤◌, ◌<◌}
use native.Mathlib.Omega.{arith}
use native.Mathlib.Decide.{ℕ_discrete, dec_lt}
use native.Mathlib.Nat.{le_refl, lt_of_lt_of_le, suc-mul, mul-le-mul_right}
use lib.Arith.{digits_lt, digits_div, digits_mod}
use lib.Dec.{T, eqb, eqb→eq, eqb_refl}
use lib.ListN.{length, get_or, set}
use lib.Seq.{get_or-set_same, get_or-set_other}
use Rattle.model.specs.Count.{count, some}
use Rattle.model.specs.Layout.{pair_at, listed}
use Rattle.model.proofs.Count.{test_true, test_ext, and_left, and_right, and_both, some_holds, some_witness}

-- row i, column j lies inside
pub place_lt : (a w i j : ℕ) → i < a → j < w → (n : ℕ) → a * w ≤ n → i * w + j < n
place_lt a w i j h l n m = lt_of_lt_of_le (digits_lt h l) m

-- row i of a table lies inside it, as far as it is used
pub row_inside : (a w i b : ℕ) → i < a → b ≤ w → (n : ℕ) → a * w ≤ n → i * w + b ≤ n
row_inside a w i b h l n s = omega (arith, suc-mul i w, mul-le-mul_right w h)

pub place_row : (w i j i' j' : ℕ) → j < w → j' < w → i * w + j ≡ i' * w + j' → i ≡ i'
place_row w i j i' j' h h' e = sym (digits_div i h) ∙ ap (λ (n : ℕ). n / w) e ∙ digits_div i' h'

pub place_column : (w i j i' j' : ℕ) → j < w → j' < w → i * w + j ≡ i' * w + j' → j ≡ j'
place_column w i j i' j' h h' e = sym (digits_mod i h) ∙ ap (λ (n : ℕ). n % w) e ∙ digits_mod i' h'

module _ (rows columns : List ℕ) (k i j : ℕ) where
  -- one place more lists its own pair
  pub listed_here : get_or rows k 0 ≡ i → get_or columns k 0 ≡ j → listed (k + 1) rows columns i j ≡ true
  unfolding listed
  listed_here e f =
      test_true (some (k + 1) (pair_at rows columns i j))
      (some_holds (pair_at rows columns i j) (k + 1) k (omega arith) (and_both (eqb (get_or rows k 0) i) (eqb (get_or columns k 0) j) (subst (λ (z : ℕ). T (eqb (get_or rows k 0) z)) e (eqb_refl (get_or rows k 0))) (subst (λ (z : ℕ). T (eqb (get_or columns k 0) z)) f (eqb_refl (get_or columns k 0)))))

  -- and no other
  pub listed_before : (get_or rows k 0 ≡ i → get_or columns k 0 ≡ j → ⊥) → listed (k + 1) rows columns i j ≡ listed k rows columns i j
  unfolding listed
  listed_before n =
      test_ext (some (k + 1) (pair_at rows columns i j)) (some k (pair_at rows columns i j))
      (λ t. let w = some_witness (pair_at rows columns i j) (k + 1) t in elim (dec_lt w.0 k) [ yes l ↦ some_holds (pair_at rows columns i j) k w.0 l w.2 | no l ↦ absurd (let e : w.0 ≡ k = omega (arith, w.1) in let p = subst (λ (z : ℕ). T (pair_at rows columns i j z)) e w.2 in n (eqb→eq (get_or rows k 0) i (and_left (eqb (get_or rows k 0) i) (eqb (get_or columns k 0) j) p)) (eqb→eq (get_or columns k 0) j (and_right (eqb (get_or rows k 0) i) (eqb (get_or columns k 0) j) p))) ])
      (λ t. let w = some_witness (pair_at rows columns i j) k t in some_holds (pair_at rows columns i j) (k + 1) w.0 (omega (arith, w.1)) w.2)

-- a table of the first k pairs, with a value for a listed pair and one for another: with the next pair's value stored it is the table of the first k + 1
module _ (val : ℕ → ℕ → Bool → ℕ) (rows columns : List ℕ) (a b w k : ℕ) (table : List ℕ) (wide : b ≤ w) (size : a * w ≤ length table) (r : get_or rows k 0 < a) (c : get_or columns k 0 < b) (upto : (i j : ℕ) → i < a → j < b → get_or table (i * w + j) 0 ≡ val i j (listed k rows columns i j)) where
  abbrev u : ℕ
  u = get_or rows k 0

  abbrev v : ℕ
  v = get_or columns k 0

  pub table_stored : (i j : ℕ) → i < a → j < b → get_or (set table (u * w + v) (val u v true)) (i * w + j) 0 ≡ val i j (listed (k + 1) rows columns i j)
  table_stored i j h l =
      elim (ℕ_discrete (i * w + j) (u * w + v)) [
        | yes e ↦
            (let p : u ≡ i = sym (place_row w i j u v (omega arith) (omega arith) e) in
            let q : v ≡ j = sym (place_column w i j u v (omega arith) (omega arith) e) in
            rw (e, get_or-set_same table (u * w + v) (val u v true) 0 (place_lt a w u v r (omega arith) (length table) size))
            (ap₂ (λ (x y : ℕ). val x y true) p q ∙ sym (ap (val i j) (listed_here rows columns k i j p q))))
        | no n ↦
            get_or-set_other table (u * w + v) (i * w + j) (val u v true) 0 n ∙ upto i j h l ∙
            sym (ap (val i j) (listed_before rows columns k i j (λ e f. n (sym (ap₂ (λ (x y : ℕ). x * w + y) e f)))))
      ]

-- the same with one value for all listed pairs, in rows as long as they are wide
pub table_more : (val : Bool → ℕ) (rows columns : List ℕ) (height width k : ℕ) (table : List ℕ) → height * width ≤ length table → get_or rows k 0 < height → get_or columns k 0 < width → ((i j : ℕ) → i < height → j < width → get_or table (i * width + j) 0 ≡ val (listed k rows columns i j)) → (i j : ℕ) → i < height → j < width → get_or (set table (get_or rows k 0 * width + get_or columns k 0) (val true)) (i * width + j) 0 ≡ val (listed (k + 1) rows columns i j)
table_more val rows columns height width k table = table_stored (λ i j. val) rows columns height width width k table (le_refl width)

-- with no pairs nothing is listed
pub listed_none : (rows columns : List ℕ) (i j : ℕ) → listed 0 rows columns i j ≡ false
unfolding listed some count
listed_none rows columns i j = refl
