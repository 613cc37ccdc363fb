-- The laws of levels.
use mathlib.Core.Path.{◌≡◌, sym, ap, ◌∙◌, subst}
use mathlib.Core.Bool.{Bool, ◌&&◌, ◌||◌}
use Prim.Native.Nat.{ℕ, zero, suc, ◌+◌, ◌-◌, ◌*◌, ◌≤◌, ◌<◌, max}
use native.Mathlib.Omega.{arith}
use native.Mathlib.Decide.{dec_lt, dec_le}
use lib.Dec.{T, leb, eqb, leb→le, le→leb, eqb→eq}
use borrow.Author.Tests.{eq-eqb}
use lib.ListN.{get_or}
use Rattle.model.specs.Graph.{Graph, nodes, degree, everybody, Inside, limits, marked, cover, level_to, level, row_for, in_by_level, index_of}
use Rattle.model.specs.CoverLaws.{changed, LevelLaws}
use Rattle.model.proofs.Count.{by_test, test_true, test_false, test_ext, or_left, or_right, or_cases, and_left, and_right, and_both, count_mono, get_d_rows, rows_ext}
use Rattle.model.proofs.Peel.{degree_operator, degree_ride, degree_mono}
use Rattle.model.proofs.Cover.{limits_operator, degree_operator_le, cover_core, cover_holds, cover_operator, cover_low_β, cover_laws}
use Rattle.model.proofs.Zero.{cover_raised, cover_unlimited}

-- ---- the largest β up to b

module _ (g : Graph) (α x : ℕ) where
  level_to_in : (b : ℕ) → T (marked (cover g α (suc b)) x) → level_to g α x (suc b) ≡ suc b
  unfolding level_to
  level_to_in b t = rw (test_true (marked (cover g α (suc b)) x) t, level_to)

  level_to_out : (b : ℕ) → (T (marked (cover g α (suc b)) x) → ⊥) → level_to g α x (suc b) ≡ level_to g α x b
  unfolding level_to
  level_to_out b n = rw (test_false (marked (cover g α (suc b)) x) n, level_to)

  level_to_le : (b : ℕ) → level_to g α x b ≤ b
  unfolding level_to
  level_to_le zero = omega arith
  level_to_le (suc b) =
      by_test (marked (cover g α (suc b)) x)
      (λ t. omega (arith, level_to_in b t))
      (λ n. omega (arith, level_to_out b n, level_to_le b))

  level_to_holds : (b : ℕ) → 1 ≤ level_to g α x b → T (marked (cover g α (level_to g α x b)) x)
  unfolding level_to
  level_to_holds zero h = absurd (let z : ⊥ = omega arith in z)
  level_to_holds (suc b) h =
      by_test (marked (cover g α (suc b)) x)
      (λ t. subst (λ (l : ℕ). T (marked (cover g α l) x)) (sym (level_to_in b t)) t)
      (λ n. subst (λ (l : ℕ). T (marked (cover g α l) x)) (sym (level_to_out b n)) (level_to_holds b (omega (arith, level_to_out b n))))

  level_to_largest : (b β : ℕ) → 1 ≤ β → β ≤ b → T (marked (cover g α β) x) → β ≤ level_to g α x b
  unfolding level_to
  level_to_largest zero β h l t = omega arith
  level_to_largest (suc b) β h l t =
      by_test (marked (cover g α (suc b)) x)
      (λ k. omega (arith, level_to_in b k))
      (λ n. elim (dec_le β b) [ yes o ↦ omega (arith, level_to_out b n, level_to_largest b β h o t) | no o ↦ absurd (n (subst (λ (z : ℕ). T (marked (cover g α z) x)) (let e : β ≡ suc b = omega arith in e) t)) ])

  -- ---- level

  pub level_bound : level g α x ≤ g.operators
  unfolding level
  level_bound = level_to_le g.operators

  -- the cover at a node's level holds it
  pub level_holds : 1 ≤ level g α x → T (marked (cover g α (level g α x)) x)
  unfolding level
  level_holds h = level_to_holds g.operators h

  -- a cover with α from 1 that holds x is at most its level
  pub level_largest : (β : ℕ) → 1 ≤ α → 1 ≤ β → x < nodes g → T (marked (cover g α β) x) → β ≤ level g α x
  unfolding level
  level_largest β a b h t = level_to_largest g.operators β b (cover_low_β g α β x h t a) t

  pub level_in : (β : ℕ) → 1 ≤ β → x < nodes g → β ≤ level g α x → T (marked (cover g α β) x)
  level_in β b h l = cover_laws.nest g α α β (level g α x) (omega arith) l x h (level_holds (omega arith))

  -- where no operator has α rides, the level is 0
  level_above : ((u : ℕ) → u < g.operators → degree g everybody u < α) → x < nodes g → level g α x ≡ 0
  level_above few h =
      elim (dec_le 1 (level g α x)) [
        | yes l ↦
            (let u = cover_operator g α (level g α x) x h (level_holds l) l in
            absurd (let z : ⊥ = omega (arith, few u.0 u.1, limits_operator g.operators α (level g α x) u.0 u.1, (cover_core g α (level g α x)).meets u.0 (omega (arith, u.1)) u.2, degree_mono g (marked (cover g α (level g α x))) everybody (λ y k t. tt) u.0) in z))
        | no l ↦ omega arith
      ]

  -- as above the rides
  pub level_high : g.rides < α → x < nodes g → level g α x ≡ 0
  level_high r h = level_above (λ u l. omega (arith, degree_operator_le g everybody u l)) h

-- limits from 0
pub level_from_zero : (g : Graph) (α β x : ℕ) → x < nodes g → marked (cover g α β) x ≡ in_by_level (limits g.operators α β x) β (level g (row_for α) x)
level_from_zero g α β x h =
    let limit : ℕ = limits g.operators α β x in
    let high : Bool = leb (max β 1) (level g (row_for α) x) in
    elim (dec_le 1 limit) [
      | yes l ↦
          cover_raised g α β x h l ∙
          test_ext (marked (cover g (max α 1) (max β 1)) x) (eqb limit 0 || high)
          (λ t. or_right (eqb limit 0) high (le→leb (max β 1) (level g (max α 1) x) (level_largest g (max α 1) x (max β 1) (omega arith) (omega arith) h t)))
          (λ t. or_cases (eqb limit 0) high t (λ q. absurd (let z : ⊥ = omega (arith, eqb→eq limit 0 q) in z)) (λ q. level_in g (max α 1) x (max β 1) (omega arith) h (leb→le (max β 1) (level g (max α 1) x) q)))
      | no l ↦
          (let e : limit ≡ 0 = omega arith in
          test_ext (marked (cover g α β) x) (eqb limit 0 || high)
          (λ t. or_left (eqb limit 0) high (subst T (sym (eq-eqb limit 0 e)) tt))
          (λ t. cover_unlimited g α β x h e))
    ]

-- ---- more clearances

-- where the clearances c have all of g, degrees, covers and levels are at least those of g
module _ (g : Graph) (c : ℕ → ℕ → Bool) (more : (u v : ℕ) → u < g.operators → v < g.rides → T (g.cleared u v) → T (c u v)) where
  pub degree_more : (s : ℕ → Bool) (x : ℕ) → x < nodes g → degree g s x ≤ degree (changed g c) s x
  degree_more s x h =
      elim (dec_lt x g.operators) [
        | yes l ↦
            omega (
              arith,
              degree_operator g s x l,
              degree_operator (changed g c) s x l,
              count_mono
                  (λ v. g.cleared x v && s (g.operators + v))
                  (λ v. c x v && s (g.operators + v))
                  g.rides
                  (λ v k t. and_both (c x v) (s (g.operators + v)) (more x v l k (and_left (g.cleared x v) (s (g.operators + v)) t)) (and_right (g.cleared x v) (s (g.operators + v)) t)),
            )
        | no l ↦
            omega (
              arith,
              degree_ride g s x (omega arith),
              degree_ride (changed g c) s x (omega arith),
              count_mono
                  (λ u. g.cleared u (x - g.operators) && s u)
                  (λ u. c u (x - g.operators) && s u)
                  g.operators
                  (λ u k t. and_both (c u (x - g.operators)) (s u) (more u (x - g.operators) k (omega arith) (and_left (g.cleared u (x - g.operators)) (s u) t)) (and_right (g.cleared u (x - g.operators)) (s u) t)),
            )
      ]

  pub cover_more : (α β : ℕ) → Inside g (marked (cover g α β)) (marked (cover (changed g c) α β))
  cover_more α β = cover_holds (changed g c) α β (marked (cover g α β)) (λ x h t. omega (arith, (cover_core g α β).meets x h t, degree_more (marked (cover g α β)) x h))

  pub level_more : (α x : ℕ) → x < nodes g → level g α x ≤ level (changed g c) α x
  unfolding level
  level_more α x h =
      elim (dec_le 1 (level_to g α x g.operators)) [
        | yes l ↦ level_to_largest (changed g c) α x g.operators (level_to g α x g.operators) l (level_to_le g α x g.operators) (cover_more α (level_to g α x g.operators) x h (level_to_holds g α x g.operators l))
        | no l ↦ omega arith
      ]

pub level_same : (g : Graph) (c : ℕ → ℕ → Bool) → ((u v : ℕ) → u < g.operators → v < g.rides → g.cleared u v ≡ c u v) → (α x : ℕ) → x < nodes g → level (changed g c) α x ≡ level g α x
level_same g c same α x h =
    omega (
      arith,
      level_more g c (λ u v k l t. subst T (same u v k l) t) α x h,
      level_more (changed g c) g.cleared (λ u v k l t. subst T (sym (same u v k l)) t) α x h,
    )

pub level_place : (g : Graph) (α x : ℕ) → 1 ≤ α → α ≤ g.rides → x < nodes g → get_or (index_of g) ((α - 1) * nodes g + x) 0 ≡ level g α x
unfolding index_of
level_place g α x a r h =
    get_d_rows (nodes g) (λ (b y : ℕ). level g (suc b) y) g.rides (α - 1) x 0 (omega arith) h ∙
    ap (λ (b : ℕ). level g b x) (let e : suc (α - 1) ≡ α = omega arith in e)

-- the index depends on the clearances below the sizes and on nothing else
pub index_same : (g : Graph) (c : ℕ → ℕ → Bool) → ((u v : ℕ) → u < g.operators → v < g.rides → g.cleared u v ≡ c u v) → index_of (changed g c) ≡ index_of g
unfolding index_of
index_same g c same =
    rows_ext (nodes g) (λ (r x : ℕ). level (changed g c) (suc r) x) (λ (r x : ℕ). level g (suc r) x) g.rides (λ r x k h. level_same g c same (suc r) x h)

pub level_laws : LevelLaws
level_laws =
    record {
      holds = λ g α β x a b h. (level_largest g α x β a b h, level_in g α x β b h);
      from_zero = level_from_zero;
      same = level_same;
      above = λ g α few x h. level_above g α x few h;
      bound = level_bound;
      place = level_place;
    }
