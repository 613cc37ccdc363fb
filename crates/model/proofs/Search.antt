-- What a loop that looks for one that passes a test returns.
use mathlib.Core.Path.{◌≡◌, sym, subst}
use mathlib.Core.Bool.{Bool, true, false}
use Prim.Native.Nat.{ℕ, ◌<◌}
use native.Mathlib.Omega.{arith}
use lib.Dec.{T}
use Rattle.model.specs.Count.{some, lowest}
use Rattle.model.proofs.Count.{test_true, test_false, some_holds, some_witness, lowest_only}

-- a test that is true passes, and one that is false doesn't
pub passes : (a b : Bool) → a ≡ b → a ≡ true → T b
passes a b e t = subst T e (subst T (sym t) tt)

pub fails : (a b : Bool) → a ≡ b → a ≡ false → T b → ⊥
fails a b e f t = subst T f (subst T (sym e) t)

module _ (p : ℕ → Bool) where
  -- none of the first i passes
  abbrev pub NoneBefore : ℕ → Type 0
  NoneBefore i = (k : ℕ) → k < i → T (p k) → ⊥

  pub some_true : (n i : ℕ) → i < n → T (p i) → true ≡ some n p
  some_true n i h t = sym (test_true (some n p) (some_holds p n i h t))

  pub some_false : (n : ℕ) → NoneBefore n → false ≡ some n p
  some_false n none = sym (test_false (some n p) (λ t. let w = some_witness p n t in none w.0 w.1 w.2))

  pub lowest_found : (n i : ℕ) → i < n → NoneBefore i → T (p i) → i ≡ lowest n p
  lowest_found n i h none t = sym (lowest_only p n i (omega arith) none (λ l. t))

  pub lowest_none : (n i : ℕ) → i ≡ n → NoneBefore i → i ≡ lowest n p
  lowest_none n i e none = sym (lowest_only p n i (omega arith) none (λ l. absurd (let z : ⊥ = omega arith in z)))
