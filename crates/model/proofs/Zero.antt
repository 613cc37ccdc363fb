-- Covers with limits from 0, by those with limits from 1: a node without a limit is in; one with a limit is in exactly if it is with both limits raised to 1.
use mathlib.Core.Path.{◌≡◌, sym, subst}
use mathlib.Core.Bool.{Bool, ◌&&◌, ◌||◌}
use Prim.Native.Nat.{ℕ, ◌+◌, ◌-◌, ◌≤◌, ◌<◌, max}
use native.Mathlib.Omega.{arith}
use native.Mathlib.Decide.{dec_lt}
use lib.Dec.{T, ltb, eqb, ltb→lt, lt→ltb, eqb→eq}
use borrow.Author.Tests.{eq-eqb}
use Rattle.model.specs.Graph.{Graph, nodes, degree, Meets, limits, marked, cover}
use Rattle.model.proofs.Count.{test_ext, and_left, and_right, and_both, or_left, or_right, or_cases, count_mono, count_pos}
use Rattle.model.proofs.Peel.{degree_operator, degree_ride, degree_mono}
use Rattle.model.proofs.Cover.{limits_operator, limits_ride, cover_core, cover_holds, cover_laws}

-- the nodes of s with a neighbour in s
abbrev linked : Graph → (ℕ → Bool) → ℕ → Bool
linked g s x = s x && ltb 0 (degree g s x)

-- a node of s has all its neighbours in s among them, for each of these has the node
module _ (g : Graph) (s : ℕ → Bool) (x : ℕ) (t : T (s x)) where
  ride_linked : x < g.operators → (v : ℕ) → T (g.cleared x v) → 0 < degree g s (g.operators + v)
  ride_linked l v c =
      let w : ℕ = g.operators + v - g.operators in
      omega (
        arith,
        degree_ride g s (g.operators + v) (omega arith),
        count_pos (λ u. g.cleared u w && s u) g.operators x l (and_both (g.cleared x w) (s x) (subst (λ (z : ℕ). T (g.cleared x z)) (let e : v ≡ w = omega arith in e) c) t),
      )

  operator_linked : g.operators ≤ x → x < nodes g → (u : ℕ) → u < g.operators → T (g.cleared u (x - g.operators)) → 0 < degree g s u
  operator_linked l h u k c =
      let v : ℕ = x - g.operators in
      omega (
        arith,
        degree_operator g s u k,
        count_pos (λ v. g.cleared u v && s (g.operators + v)) g.rides v (omega arith) (and_both (g.cleared u v) (s (g.operators + v)) c (subst (λ (z : ℕ). T (s z)) (let e : x ≡ g.operators + v = omega arith in e) t)),
      )

  degree_linked : x < nodes g → degree g s x ≤ degree g (linked g s) x
  degree_linked h =
      elim (dec_lt x g.operators) [
        | yes l ↦
            omega (
              arith,
              degree_operator g s x l,
              degree_operator g (linked g s) x l,
              count_mono
                  (λ v. g.cleared x v && s (g.operators + v))
                  (λ v. g.cleared x v && linked g s (g.operators + v))
                  g.rides
                  (λ v k i. both (g.cleared x v) (g.operators + v) i (ride_linked l v)),
            )
        | no l ↦
            omega (
              arith,
              degree_ride g s x (omega arith),
              degree_ride g (linked g s) x (omega arith),
              count_mono
                  (λ u. g.cleared u (x - g.operators) && s u)
                  (λ u. g.cleared u (x - g.operators) && linked g s u)
                  g.operators
                  (λ u k i. both (g.cleared u (x - g.operators)) u i (operator_linked (omega arith) h u k)),
            )
      ]
    where
      both : (c : Bool) (y : ℕ) → T (c && s y) → (T c → 0 < degree g s y) → T (c && linked g s y)
      both c y i d =
          let cleared = and_left c (s y) i in
          and_both c (linked g s y) cleared (and_both (s y) (ltb 0 (degree g s y)) (and_right c (s y) i) (lt→ltb 0 (degree g s y) (d cleared)))

module _ (g : Graph) (α β : ℕ) where
  abbrev set : ℕ → Bool
  set = marked (cover g α β)

  abbrev limit : ℕ → ℕ
  limit = limits g.operators α β

  limits_raised : (x : ℕ) → limits g.operators (max α 1) (max β 1) x ≡ max (limit x) 1
  limits_raised x =
      elim (dec_lt x g.operators) [
        | yes l ↦ omega (arith, limits_operator g.operators (max α 1) (max β 1) x l, limits_operator g.operators α β x l)
        | no l ↦ omega (arith, limits_ride g.operators (max α 1) (max β 1) x (omega arith), limits_ride g.operators α β x (omega arith))
      ]

  -- without the nodes that have no neighbour in it, the cover meets the raised limits
  linked_meets : Meets g (limits g.operators (max α 1) (max β 1)) (linked g set)
  linked_meets x h t =
      let m = and_left (set x) (ltb 0 (degree g set x)) t in
      omega (
        arith,
        limits_raised x,
        (cover_core g α β).meets x h m,
        ltb→lt 0 (degree g set x) (and_right (set x) (ltb 0 (degree g set x)) t),
        degree_linked g set x m h,
      )

  pub cover_raised : (x : ℕ) → x < nodes g → 1 ≤ limit x → set x ≡ marked (cover g (max α 1) (max β 1)) x
  cover_raised x h l =
      test_ext (set x) (marked (cover g (max α 1) (max β 1)) x)
      (λ t. cover_holds g (max α 1) (max β 1) (linked g set) linked_meets x h (and_both (set x) (ltb 0 (degree g set x)) t (lt→ltb 0 (degree g set x) (omega (arith, (cover_core g α β).meets x h t)))))
      (λ t. cover_laws.nest g α (max α 1) β (max β 1) (omega arith) (omega arith) x h t)

  -- with a node that has no limit the cover still meets its limits
  pub cover_unlimited : (x : ℕ) → x < nodes g → limit x ≡ 0 → T (set x)
  cover_unlimited x h e = cover_holds g α β more meets x h (or_left (eqb x x) (set x) (subst T (sym (eq-eqb x x (omega arith))) tt))
    where
      more : ℕ → Bool
      more y = eqb y x || set y

      meets : Meets g limit more
      meets y k t =
          or_cases (eqb y x) (set y) t
          (λ q. let z : limit y ≡ 0 = subst (λ (w : ℕ). limit w ≡ 0) (sym (eqb→eq y x q)) e in omega arith)
          (λ m. omega (arith, (cover_core g α β).meets y k m, degree_mono g set more (λ w l i. or_right (eqb w x) (set w) i) y))
