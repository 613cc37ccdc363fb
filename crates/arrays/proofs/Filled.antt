-- One value stored from one place of an array up to another: place by place, and what stands where afterwards.
use mathlib.Core.Path.{◌≡◌, sym, ap, ap₂, ◌∙◌, subst}
use mathlib.Core.List.{List, [], ◌∷◌, ◌++◌, append_assoc}
use Prim.Native.Nat.{ℕ, suc, ◌+◌, ◌-◌, ◌≤◌, ◌<◌}
use native.Mathlib.Numerals.{add-one}
use native.Mathlib.Omega.{arith}
use lib.ListN.{length, get_or, set, take, drop, replicate, get_or-replicate, get_or-append, length-append, length-drop, length-replicate, replicate-append-replicate}
use lib.Seq.{drop_at, length-take-le, get_or-append-add, drop-cons, append_snoc, set_at}
use Rattle.arrays.specs.Filled.{filled}

module _ {A : Type 0} (l : List A) (from : ℕ) (value : A) where
  -- the first items, and the one value up to the place i
  abbrev pub front : ℕ → List A
  front i = take from l ++ replicate (i - from) value

  pub length_front : (i : ℕ) → from ≤ i → i ≤ length l → length (front i) ≡ i
  length_front i h b =
      omega (arith, length-append (take from l) (replicate (i - from) value), length-take-le from l (omega arith), length-replicate (i - from) value)

  front_more : (i : ℕ) → from ≤ i → front i ++ (value ∷ []) ≡ front (i + 1)
  front_more i h =
      append_assoc (take from l) (replicate (i - from) value) (value ∷ []) ∙
      ap (λ (x : List A). take from l ++ x) (replicate-append-replicate (i - from) 1 value) ∙
      ap (λ (n : ℕ). take from l ++ replicate n value) (let e : i - from + 1 ≡ i + 1 - from = omega arith in e)

  pub fill_more : (i : ℕ) → from ≤ i → i < length l → set (front i ++ drop i l) i value ≡ front (i + 1) ++ drop (i + 1) l
  fill_more i h b =
      ap (λ (x : List A). set (front i ++ x) i value) (drop-cons l i value b) ∙
      set_at (front i) (get_or l i value) (drop (suc i) l) value i (length_front i h (omega arith)) ∙
      sym (append_snoc (front i) value (drop (suc i) l)) ∙
      ap₂ (λ (x : List A) (n : ℕ). x ++ drop n l) (front_more i h) (sym (add-one i))

  module _ (to : ℕ) (h : from ≤ to) (b : to ≤ length l) where
    -- behind the places all is as it came
    pub filled_rest : drop to (filled from to value l) ≡ drop to l
    filled_rest = drop_at (front to) (drop (length (front to)) l) to (length_front to h b) ∙ ap (λ (n : ℕ). drop n l) (length_front to h b)

    pub length_filled : length (filled from to value l) ≡ length l
    length_filled = omega (arith, length-append (front to) (drop (length (front to)) l), length_front to h b, length-drop (length (front to)) l)

-- at the places of a list of words it is the one word
module _ (l : List ℕ) (from word to : ℕ) (h : from ≤ to) (b : to ≤ length l) where
  pub filled_at : (i : ℕ) → from ≤ i → i < to → get_or (filled from to word l) i 0 ≡ word
  filled_at i k m =
      get_or-append (front l from word to) (drop (length (front l from word to)) l) 0 i (omega (arith, length_front l from word to h b)) ∙
      subst (λ (n : ℕ). get_or (front l from word to) n 0 ≡ word) (let e : length (take from l) + (i - from) ≡ i = omega (arith, length-take-le from l (omega arith)) in e)
      (get_or-append-add (take from l) (replicate (to - from) word) (i - from) 0 ∙ get_or-replicate (to - from) (i - from) word 0 (omega arith))
