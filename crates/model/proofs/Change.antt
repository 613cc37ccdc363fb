-- The last sentence of demand 3: how levels move where pairs of one operator u are added.
-- Let C be the cover (α, β) with them. C without u meets (α, β - 1): operators keep all their rides, and each ride loses one operator at the
-- most. It does so without the pairs too, which are u's alone. In rows above u's degree u is not in C, so C itself meets (α, β) without them.
use mathlib.Core.Path.{sym, ap, subst}
use mathlib.Core.Logic.{◌≢◌}
use mathlib.Core.Bool.{Bool, ◌&&◌}
use mathlib.Core.List.{List}
use Prim.Native.Nat.{ℕ, ◌+◌, ◌-◌, ◌≤◌, ◌<◌, max}
use native.Mathlib.Omega.{arith}
use native.Mathlib.Decide.{dec_lt, dec_le}
use lib.Dec.{T}
use lib.ListN.{set}
use Rattle.model.specs.Graph.{Graph, nodes, degree, everybody, Meets, limits, marked, cover, level}
use Rattle.model.specs.CoverLaws.{changed}
use Rattle.model.specs.OneOperator.{Gained, OneOperator}
use Rattle.model.proofs.Count.{and_left, and_right, and_both, count_mono, count_but_one}
use Rattle.model.proofs.Peel.{degree_operator, degree_ride, degree_mono, degree_same_operator, marked_cleared, marked_other, marked_less, marked_stays}
use Rattle.model.proofs.Cover.{limits_operator, limits_ride, cover_core, cover_holds}
use Rattle.model.proofs.Level.{level_holds, level_largest, level_more}

-- a set that meets (α, β) meets (α, β - 1) without one operator
meets_without : (g : Graph) (u : ℕ) → u < g.operators → (α β : ℕ) (s : List ℕ) → Meets g (limits g.operators α β) (marked s) → Meets g (limits g.operators α (β - 1)) (marked (set s u 0))
meets_without g u o α β s m y h t =
    let d = m y h (marked_less s u y t) in
    elim (dec_lt y g.operators) [
      | yes l ↦ omega (arith, limits_operator g.operators α β y l, limits_operator g.operators α (β - 1) y l, degree_same_operator g (marked (set s u 0)) (marked s) u (marked_other s u) o y l)
      | no l ↦
          omega (
            arith,
            limits_ride g.operators α β y (omega arith),
            limits_ride g.operators α (β - 1) y (omega arith),
            degree_ride g (marked s) y (omega arith),
            degree_ride g (marked (set s u 0)) y (omega arith),
            count_but_one
                (λ a. g.cleared a (y - g.operators) && marked s a)
                (λ a. g.cleared a (y - g.operators) && marked (set s u 0) a)
                u
                g.operators
                (λ a k n. subst T (ap (λ (z : Bool). g.cleared a (y - g.operators) && z) (sym (marked_other s u a n)))),
          )
    ]

-- b in place of a, where it follows from s and a
and_less : (a b s : Bool) → (T s → T a → T b) → T (a && s) → T (b && s)
and_less a b s f t = let k = and_right a s t in and_both b s (f k (and_left a s t)) k

module _ (g : Graph) (c : ℕ → ℕ → Bool) (u : ℕ) (gained : Gained g c u) where
  -- in a set without u the further pairs count for nobody but u
  degree_without : (s : ℕ → Bool) → (T (s u) → ⊥) → (y : ℕ) → y < nodes g → y ≢ u → degree (changed g c) s y ≤ degree g s y
  degree_without s out y h n =
      elim (dec_lt y g.operators) [
        | yes l ↦
            omega (
              arith,
              degree_operator (changed g c) s y l,
              degree_operator g s y l,
              count_mono
                  (λ v. c y v && s (g.operators + v))
                  (λ v. g.cleared y v && s (g.operators + v))
                  g.rides
                  (λ v k. and_less (c y v) (g.cleared y v) (s (g.operators + v)) (λ _. gained.alone y v l k n)),
            )
        | no l ↦
            (let v : ℕ = y - g.operators in
            omega (
              arith,
              degree_ride (changed g c) s y (omega arith),
              degree_ride g s y (omega arith),
              count_mono
                  (λ a. c a v && s a)
                  (λ a. g.cleared a v && s a)
                  g.operators
                  (λ a k. and_less (c a v) (g.cleared a v) (s a) (λ m. gained.alone a v k (omega arith) (λ e. out (subst (λ (z : ℕ). T (s z)) e m)))),
            ))
      ]

  -- so a set without u that meets (α, β) with them does so without them, and its nodes have level β at least
  level_without : (α β x : ℕ) (s : ℕ → Bool) → (T (s u) → ⊥) → Meets (changed g c) (limits g.operators α β) s → 1 ≤ α → x < nodes g → T (s x) → β ≤ level g α x
  unfolding limits
  level_without α β x s out m a h t =
      elim (dec_le 1 β) [
        | yes b ↦ level_largest g α x β a b h (cover_holds g α β s (λ y k i. omega (arith, m y k i, degree_without s out y k (λ e. out (subst (λ (z : ℕ). T (s z)) e i)))) x h t)
        | no b ↦ omega arith
      ]

  rises_by_one : (α x : ℕ) → 1 ≤ α → x < nodes g → x ≢ u → level (changed g c) α x ≤ level g α x + 1
  rises_by_one α x a h n =
      let β : ℕ = level (changed g c) α x in
      let s : List ℕ = cover (changed g c) α β in
      elim (dec_le 1 β) [
        | yes l ↦ omega (arith, level_without α (β - 1) x (marked (set s u 0)) (marked_cleared s u) (meets_without (changed g c) u gained.operator α β s (cover_core (changed g c) α β).meets) a h (marked_stays s u x n (level_holds (changed g c) α x l)))
        | no l ↦ omega arith
      ]

  -- above its degree u is in no cover
  above_out : (α β : ℕ) → degree (changed g c) everybody u < α → T (marked (cover (changed g c) α β) u) → ⊥
  above_out α β d t =
      omega (
        arith,
        (cover_core (changed g c) α β).meets u (omega (arith, gained.operator)) t,
        limits_operator g.operators α β u gained.operator,
        degree_mono (changed g c) (marked (cover (changed g c) α β)) everybody (λ y h m. tt) u,
      )

  above_stays : (α x : ℕ) → max (degree g everybody u) (degree (changed g c) everybody u) < α → x < nodes g → level (changed g c) α x ≤ level g α x
  above_stays α x d h =
      let β : ℕ = level (changed g c) α x in
      elim (dec_le 1 β) [
        | yes l ↦ level_without α β x (marked (cover (changed g c) α β)) (above_out α β (omega arith)) (cover_core (changed g c) α β).meets (omega arith) h (level_holds (changed g c) α x l)
        | no l ↦ omega arith
      ]

pub one_operator : OneOperator
one_operator g c u gained =
    record {
      stays = λ α x d h. omega (arith, above_stays g c u gained α x d h, level_more g c gained.kept α x h);
      up = λ α x a h n. level_more g c gained.kept α x h;
      by_one = rises_by_one g c u gained;
    }
