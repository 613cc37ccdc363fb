-- Laws of a chain of numbers: the first that applies, in the order of the list.
use mathlib.Core.Path.{◌≡◌, refl, sym, ◌∙◌, subst}
use mathlib.Core.Logic.{◌≢◌}
use mathlib.Core.Bool.{Bool, true, false}
use mathlib.Core.List.{List, [], ◌∷◌, ◌++◌}
use Prim.Native.Nat.{ℕ, suc, ◌≤◌, ◌<◌}
use native.Mathlib.Omega.{arith}
use native.Mathlib.Decide.{dec_le, ℕ_discrete}
use lib.Dec.{T, ltb, ltb→lt, lt→ltb}
use Rattle.model.specs.Refusal.{first_number}
use Rattle.model.proofs.Count.{by_test, test_true, test_false}

pub first_nil : first_number [] ≡ 0
unfolding first_number
first_nil = refl

pub first_here : (k : ℕ) (t : Bool) (cs : List (ℕ × Bool)) → T t → first_number ((k, t) ∷ cs) ≡ k
unfolding first_number
first_here k true cs h = refl
first_here k false cs h = absurd h

pub first_skip : (k : ℕ) (t : Bool) (cs : List (ℕ × Bool)) → (T t → ⊥) → first_number ((k, t) ∷ cs) ≡ first_number cs
unfolding first_number
first_skip k true cs n = absurd (n tt)
first_skip k false cs n = refl

-- a number with none behind it
module _ (k : ℕ) (t : Bool) where
  pub last_here : t ≡ true → k ≡ first_number ((k, t) ∷ [])
  last_here e = sym (first_here k t [] (subst T (sym e) tt))

  pub last_skip : t ≡ false → 0 ≡ first_number ((k, t) ∷ [])
  last_skip e = sym (first_skip k t [] (λ x. subst T e x) ∙ first_nil)

-- two chains are alike where the first tests are, and the others where the first does not apply
pub first_same : (k : ℕ) (t t' : Bool) (cs cs' : List (ℕ × Bool)) → t ≡ t' → ((T t → ⊥) → first_number cs ≡ first_number cs') → first_number ((k, t) ∷ cs) ≡ first_number ((k, t') ∷ cs')
first_same k t t' cs cs' e rest =
    by_test t
    (λ a. first_here k t cs a ∙ sym (first_here k t' cs' (subst T e a)))
    (λ n. first_skip k t cs n ∙ rest n ∙ sym (first_skip k t' cs' (λ a. n (subst T (sym e) a))))

-- chains with the same numbers in front are alike where the others are, if none of those in front applies
pub behind_same : (ds ds' cs : List (ℕ × Bool)) → (first_number cs ≡ 0 → first_number ds ≡ first_number ds') → first_number (cs ++ ds) ≡ first_number (cs ++ ds')
behind_same ds ds' [] rest = rest first_nil
behind_same ds ds' (c ∷ cs) rest = first_same c.0 c.1 c.1 (cs ++ ds) (cs ++ ds') refl (λ n. behind_same ds ds' cs (λ e. rest (first_skip c.0 c.1 cs n ∙ e)))

-- where none applies, the first does not, and none of the others
pub first_none : (k : ℕ) (t : Bool) (cs : List (ℕ × Bool)) → first_number ((suc k, t) ∷ cs) ≡ 0 → (T t → ⊥) × (first_number cs ≡ 0)
unfolding first_number
first_none k true cs e = absurd (let z : ⊥ = omega arith in z)
first_none k false cs e = (λ t. t, e)

-- a number is at least its limit exactly if the test for less fails
pub enough : (a b : ℕ) → (T (ltb a b) → ⊥) → b ≤ a
enough a b n = elim (dec_le b a) [ yes h ↦ h | no h ↦ absurd (n (lt→ltb a b (omega arith))) ]

pub not_less : (a b : ℕ) → b ≤ a → T (ltb a b) → ⊥
not_less a b h t = omega (arith, ltb→lt a b t)

pub lt_less : (a b : ℕ) → a < b → T (ltb a b)
lt_less a b h = lt→ltb a b h

-- ---- one chain behind another

-- every number of a list is at least 1
abbrev pub Positive : List (ℕ × Bool) → Type 0
Positive [] = Unit
Positive (c ∷ cs) = (1 ≤ c.0) × Positive cs

-- where one of the first numbers applies, the others don't count; where none does, they do
module _ (ds : List (ℕ × Bool)) where
  pub first_front : (cs : List (ℕ × Bool)) → Positive cs → first_number cs ≢ 0 → first_number (cs ++ ds) ≡ first_number cs
  unfolding first_number
  first_front [] p n = absurd (n refl)
  first_front (c ∷ cs) p n =
      by_test c.1
      (λ t. rw (test_true c.1 t, first_number))
      (λ f. rw (test_false c.1 f, first_number) (first_front cs p.1 (λ e. n (rw (test_false c.1 f, first_number) e))))

  pub first_behind : (cs : List (ℕ × Bool)) → Positive cs → first_number cs ≡ 0 → first_number (cs ++ ds) ≡ first_number ds
  unfolding first_number
  first_behind [] p e = refl
  first_behind (c ∷ cs) p e =
      by_test c.1
      (λ t. absurd (let q : c.0 ≡ 0 = rw (test_true c.1 t, first_number) at e in let z : ⊥ = omega (arith, p.0) in z))
      (λ f. rw (test_false c.1 f, first_number) (first_behind cs p.1 (rw (test_false c.1 f, first_number) at e)))

  -- the same of k, which is the first numbers' own
  pub front_is : (cs : List (ℕ × Bool)) → Positive cs → (k : ℕ) → k ≡ first_number cs → k ≢ 0 → k ≡ first_number (cs ++ ds)
  front_is cs p k e n = e ∙ sym (first_front cs p (λ z. n (e ∙ z)))

  pub behind_is : (cs : List (ℕ × Bool)) → Positive cs → (k : ℕ) → k ≡ first_number cs → k ≡ 0 → first_number ds ≡ first_number (cs ++ ds)
  behind_is cs p k e z = sym (first_behind cs p (sym e ∙ z))

  -- where none of all applies, none of the first does, and none of the others
  pub first_split : (cs : List (ℕ × Bool)) → Positive cs → first_number (cs ++ ds) ≡ 0 → (first_number cs ≡ 0) × (first_number ds ≡ 0)
  first_split cs p e =
      elim (ℕ_discrete (first_number cs) 0) [
        | yes z ↦ (z, sym (first_behind cs p z) ∙ e)
        | no n ↦ absurd (n (sym (first_front cs p n) ∙ e))
      ]
