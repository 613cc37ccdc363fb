-- What the checks of the sizes leave, and how the checks of `cover` go on after them.
use mathlib.Core.Path.{◌≡◌, refl, sym}
use mathlib.Core.Bool.{Bool, true, false, not}
use mathlib.Core.List.{List, [], ◌∷◌, ◌++◌}
use Prim.Native.Nat.{ℕ, zero, suc, ◌+◌, ◌*◌, ◌≤◌}
use native.Mathlib.Omega.{arith}
use lib.Dec.{ltb, eqb}
use borrow.Author.Tests.{eqb-true, not-false}
use lib.ListN.{length}
use Rattle.model.specs.declared.Head.{Head}
use Rattle.model.specs.Refusal.{first_number}
use Rattle.model.proofs.Count.{test_false}
use Rattle.model.proofs.Chain.{first_none, enough}
use Rattle.model.proofs.Eleven.{first_lacks}
use Rattle.pairs.proofs.Place.{product_small}
use Rattle.cover_input.specs.Input.{head, size_cases}
use Rattle.cover_text.specs.Text.{refusal_line}
use Rattle.cover_report.specs.Program.{cover_refusal, cover_text, NeverEleven}
use Rattle.cover_report.specs.Sizes.{Sizes, input_text}

-- ---- the first number of a list of checks

-- two lists of checks: where one of the first refuses, the second is not looked at
append_hit : (n : ℕ) (b : Bool) (cs ds : List (ℕ × Bool)) (k : ℕ) → (first_number cs ≡ suc k → first_number (cs ++ ds) ≡ suc k) → first_number ((n, b) ∷ cs) ≡ suc k → first_number ((n, b) ∷ (cs ++ ds)) ≡ suc k
unfolding first_number
append_hit n true cs ds k f e = e
append_hit n false cs ds k f e = f e

lowest_hit : (cs ds : List (ℕ × Bool)) (k : ℕ) → first_number cs ≡ suc k → first_number (cs ++ ds) ≡ suc k
unfolding first_number
lowest_hit [] ds k e = absurd (let z : ⊥ = omega arith in z)
lowest_hit (c ∷ cs) ds k e = append_hit c.0 c.1 cs ds k (lowest_hit cs ds k) e

-- where none of the first refuses, the second decides
lowest_miss : (n : ℕ) (b : Bool) (cs ds : List (ℕ × Bool)) → (first_number cs ≡ 0 → first_number (cs ++ ds) ≡ first_number ds) → first_number ((suc n, b) ∷ cs) ≡ 0 → first_number ((suc n, b) ∷ (cs ++ ds)) ≡ first_number ds
unfolding first_number
lowest_miss n true cs ds f e = absurd (let z : ⊥ = omega arith in z)
lowest_miss n false cs ds f e = f e

-- ---- the checks of the sizes

pub pairs_fit : (h : Head) → Sizes h → h.pairs ≤ 12000
pairs_fit h c = omega (arith, product_small h.operators h.rides c.few_operators c.few_rides, c.few_pairs)

pub checked : (size : ℕ) (h : Head) → first_number (size_cases size h) ≡ 0 → Sizes h × (size ≡ 10 + 4 * h.pairs)
checked size h e =
    let a = first_none 12 (ltb size 6) _ e in
    let b = first_none 0 (ltb 200 h.operators) _ a.1 in
    let c = first_none 1 (ltb 60 h.rides) _ b.1 in
    let d = first_none 3 (ltb (h.operators * h.rides) h.pairs) _ c.1 in
    let l = first_none 12 (not (eqb size (10 + 4 * h.pairs))) _ d.1 in
    let test : Bool = eqb size (10 + 4 * h.pairs) in (
      record {
        few_operators = enough 200 h.operators b.0;
        few_rides = enough 60 h.rides c.0;
        few_pairs = enough (h.operators * h.rides) h.pairs d.0;
      },
      eqb-true size (10 + 4 * h.pairs) (not-false test (test_false (not test) l.0)),
    )

size_miss : (size : ℕ) (h : Head) (ds : List (ℕ × Bool)) → first_number (size_cases size h) ≡ 0 → first_number (size_cases size h ++ ds) ≡ first_number ds
size_miss size h ds =
    lowest_miss 12 (ltb size 6) _ ds
    (lowest_miss 0 (ltb 200 h.operators) _ ds
    (lowest_miss 1 (ltb 60 h.rides) _ ds
    (lowest_miss 3 (ltb (h.operators * h.rides) h.pairs) _ ds
    (lowest_miss 12 (not (eqb size (10 + 4 * h.pairs))) [] ds (λ e. refl)))))

-- ---- the output

module _ (input : List ℕ) where
  pub text_refused : (n : ℕ) → (n ≡ 0 → ⊥) → n ≡ first_number (size_cases (length input) (head input)) → refusal_line n ≡ cover_text input
  unfolding cover_text cover_refusal
  text_refused zero f e = absurd (f refl)
  text_refused (suc k) f e = rw (lowest_hit (size_cases (length input) (head input)) _ k (sym e))

  pub text_checked : first_number (size_cases (length input) (head input)) ≡ 0 → input_text input (head input) ≡ cover_text input
  unfolding cover_text cover_refusal
  text_checked e = rw (size_miss (length input) (head input) _ e)

-- 11 is in neither list of checks
pub never_eleven : NeverEleven
unfolding cover_refusal
never_eleven input = first_lacks 11 (λ e. omega arith) _ tt
