-- Lists as loops and calls leave them: values stored place by place, and a part that is lent.
use mathlib.Core.Path.{◌≡◌, refl, sym, ap₂, ◌∙◌, subst}
use mathlib.Core.List.{List, ◌++◌}
use Prim.Native.Nat.{ℕ, zero, suc, ◌+◌, ◌-◌, ◌≤◌, ◌<◌}
use native.Mathlib.Numerals.{add-one}
use native.Mathlib.Omega.{arith}
use native.Mathlib.Decide.{dec_lt}
use lib.ListN.{length, get_or, set, take, drop, replicate, length-take, length-drop, get_or-append, take-append-drop}
use lib.Seq.{get_or-set_same, get_or-set_other, get_or-take, get_or-drop, length-take-le, get_or-append-add, take-suc, drop-cons, set_at, append_snoc, ext_get_or}
use Rattle.model.specs.Layout.{over}

-- a loop stores f 0, f 1, .. : what holds behind the place i and ahead of it after one store
module _ (f : ℕ → ℕ) (l₀ l : List ℕ) (i v : ℕ) (fits : i < length l) (value : v ≡ f i) where
  pub stored : ((k : ℕ) → k < i → get_or l k 0 ≡ f k) → (k : ℕ) → k < i + 1 → get_or (set l i v) k 0 ≡ f k
  stored done k h =
      elim (dec_lt k i) [
        | yes b ↦ get_or-set_other l i k v 0 (omega arith) ∙ done k b
        | no b ↦ (let e : k ≡ i = omega arith in rw e (get_or-set_same l i v 0 fits ∙ value))
      ]

  pub left_alone : ((k : ℕ) → i ≤ k → get_or l k 0 ≡ get_or l₀ k 0) → (k : ℕ) → i + 1 ≤ k → get_or (set l i v) k 0 ≡ get_or l₀ k 0
  left_alone rest k h = get_or-set_other l i k v 0 (omega arith) ∙ rest k (omega arith)

-- a loop stores f 0, f 1, .. from the place n on
pub stored_from : (f : ℕ → ℕ) (l : List ℕ) (n i v : ℕ) → n + i < length l → v ≡ f i → ((k : ℕ) → k < i → get_or l (n + k) 0 ≡ f k) → (k : ℕ) → k < i + 1 → get_or (set l (n + i) v) (n + k) 0 ≡ f k
stored_from f l n i v fits value done k h =
    elim (dec_lt k i) [
      | yes b ↦ get_or-set_other l (n + i) (n + k) v 0 (omega arith) ∙ done k b
      | no b ↦ (let e : k ≡ i = omega arith in rw e (get_or-set_same l (n + i) v 0 fits ∙ value))
    ]

-- the first n of a list, as code lends them
module _ (l : List ℕ) (n : ℕ) (h : n ≤ length l) where
  pub first_length : length (take (n - 0) l) ≡ n
  first_length = simp length-take (omega arith)

  pub first_at : (i d : ℕ) → i < n → get_or (take (n - 0) l) i d ≡ get_or l i d
  first_at i d k = get_or-take (n - 0) l i d (omega arith)

-- the part of a list from a on, b long, as code lends it
module _ (l : List ℕ) (a b : ℕ) (inside : a + b ≤ length l) where
  pub part_length : length (take (a + b - a) (drop a l)) ≡ b
  part_length = simp (length-take, length-drop) (omega arith)

  pub part_at : (j d : ℕ) → j < b → get_or (take (a + b - a) (drop a l)) j d ≡ get_or l (a + j) d
  part_at j d h = get_or-take (a + b - a) (drop a l) j d (omega arith) ∙ get_or-drop a l j d

-- a list whose part from a on is replaced by ys, and one whose first words are
module _ (l ys zs : List ℕ) (a : ℕ) (inside : a ≤ length l) where
  pub put_before : (x d : ℕ) → x < a → get_or (take a l ++ (ys ++ zs)) x d ≡ get_or l x d
  put_before x d h = get_or-append (take a l) (ys ++ zs) d x (omega (arith, length-take-le a l inside)) ∙ get_or-take a l x d h

  pub put_at : (j d : ℕ) → j < length ys → get_or (take a l ++ (ys ++ zs)) (a + j) d ≡ get_or ys j d
  put_at j d h =
      subst (λ (n : ℕ). get_or (take a l ++ (ys ++ zs)) (n + j) d ≡ get_or ys j d) (length-take-le a l inside)
      (get_or-append-add (take a l) (ys ++ zs) j d ∙ get_or-append ys zs d j h)

module _ (l ys : List ℕ) (a : ℕ) (long : length ys ≡ a) where
  pub front_at : (j d : ℕ) → j < a → get_or (ys ++ drop a l) j d ≡ get_or ys j d
  front_at j d h = get_or-append ys (drop a l) d j (omega arith)

  pub front_after : (j d : ℕ) → get_or (ys ++ drop a l) (a + j) d ≡ get_or l (a + j) d
  front_after j d =
      subst (λ (n : ℕ). get_or (ys ++ drop a l) (n + j) d ≡ get_or l (a + j) d) long
      (get_or-append-add ys (drop a l) j d ∙ get_or-drop a l j d)

-- a list of zeros, at every place
pub getD_zeros : (n k : ℕ) → ◌≡◌ {A = ℕ} (get_or (replicate n 0) k 0) 0
getD_zeros zero k = refl
getD_zeros (suc n) zero = refl
getD_zeros (suc n) (suc k) = getD_zeros n k

-- a list whose first i words are copied from s, with the next one copied
pub copied_more : (s d : List ℕ) (i : ℕ) → i < length s → i < length d → set (take i s ++ drop i d) i (get_or s i 0) ≡ take (i + 1) s ++ drop (i + 1) d
copied_more s d i h l =
    rw (add-one, drop-cons d i 0 l, take-suc s i 0 h, append_snoc)
    (set_at (take i s) (get_or d i 0) (drop (suc i) d) (get_or s i 0) i (length-take-le i s (omega arith)))

-- a list that has the new words first, and then what the old one had behind them
pub over_is : (l old new : List ℕ) → length new ≤ length l → ((i : ℕ) → i < length new → get_or l i 0 ≡ get_or new i 0) → drop (length new) l ≡ drop (length new) old → l ≡ over new old
over_is l old new long first rest =
    sym (take-append-drop (length new) l) ∙
    ap₂ (λ (x y : List ℕ). x ++ y) (ext_get_or 0 (take (length new) l) new (length-take-le (length new) l long) (λ i h. get_or-take (length new) l i 0 (omega (arith, length-take-le (length new) l long)) ∙ first i (omega (arith, length-take-le (length new) l long)))) rest
