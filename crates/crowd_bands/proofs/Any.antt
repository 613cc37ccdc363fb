-- Whether an element of a list passes a test, by places; and the first that does.
use mathlib.Core.Path.{◌≡◌, refl, sym, ap, ◌∙◌, subst}
use mathlib.Core.Bool.{Bool, true, false, ◌||◌}
use mathlib.Core.List.{List, [], ◌∷◌}
use Prim.Native.Nat.{ℕ, zero, suc, ◌+◌, ◌≤◌, ◌<◌}
use native.Mathlib.Numerals.{add-one}
use native.Mathlib.Omega.{arith}
use native.Mathlib.Decide.{dec_lt}
use lib.Dec.{T}
use lib.ListN.{length, get_or, take}
use Rattle.std.specs.Prelude.{Some}
use Rattle.std.specs.List.{list_any, find}
use Rattle.std.proofs.lemmas.List.{take_all}
use Rattle.std.proofs.lemmas.List.Folds.{list_any_more}
use Rattle.model.specs.Count.{count, some}
use Rattle.model.proofs.Count.{test_ext, or_left, or_right, or_cases, some_holds, some_witness}

-- one place more
pub some_more : (p : ℕ → Bool) (k : ℕ) → some (k + 1) p ≡ (some k p || p k)
some_more p k =
    test_ext (some (k + 1) p) (some k p || p k)
    (λ t.
    let w = some_witness p (k + 1) t in
    elim (dec_lt w.0 k) [
      | yes l ↦ or_left (some k p) (p k) (some_holds p k w.0 l w.2)
      | no l ↦ (let e : w.0 ≡ k = omega (arith, w.1) in or_right (some k p) (p k) (subst (λ (i : ℕ). T (p i)) e w.2))
    ])
    (λ t.
    or_cases (some k p) (p k) t
    (λ s. let w = some_witness p k s in some_holds p (k + 1) w.0 (omega (arith, w.1)) w.2)
    (λ s. some_holds p (k + 1) k (omega arith) s))

module _ {X : Type 0} (p : X → Bool) (xs : List X) (d : X) where
  -- of the first k elements
  pub any_some : (k : ℕ) → k ≤ length xs → list_any p (take k xs) ≡ some k (λ i. p (get_or xs i d))
  unfolding some count
  any_some zero h = refl
  any_some (suc k) h =
      ap (λ (j : ℕ). list_any p (take j xs)) (sym (add-one k)) ∙
      list_any_more p xs k d (omega arith) ∙
      ap (λ (b : Bool). b || p (get_or xs k d)) (any_some k (omega arith)) ∙
      sym (some_more (λ i. p (get_or xs i d)) k) ∙
      ap (λ (j : ℕ). some j (λ i. p (get_or xs i d))) (add-one k)

  pub any_all : list_any p xs ≡ some (length xs) (λ i. p (get_or xs i d))
  any_all = ap (list_any p) (sym (take_all (length xs) xs (omega arith))) ∙ any_some (length xs) (omega arith)

-- the first that passes
pub find_first : {X : Type 0} (p : X → Bool) (xs : List X) (d : X) (i : ℕ) → i < length xs → p (get_or xs i d) ≡ true → ((k : ℕ) → k < i → p (get_or xs k d) ≡ false) → find p xs ≡ Some (get_or xs i d)
find_first p [] d i h t n = absurd (let z : ⊥ = omega arith in z)
find_first p (x ∷ xs) d zero h t n = rw t refl
find_first p (x ∷ xs) d (suc i) h t n = rw (n 0 (omega arith)) (find_first p xs d i (omega arith) t (λ k l. n (suc k) (omega arith)))
