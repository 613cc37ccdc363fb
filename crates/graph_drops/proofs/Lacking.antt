-- Who falls short, by two bytes: the degree and the limit; and where to look on after a node was dropped.
use mathlib.Core.Path.{◌≡◌, sym, ap, ap₂, ◌∙◌, subst}
use mathlib.Core.Logic.{◌≢◌}
use mathlib.Core.Bool.{Bool, true, false, ◌&&◌}
use mathlib.Core.List.{List}
use Prim.Native.Nat.{ℕ, ◌≤◌, ◌<◌, min}
use native.Mathlib.Omega.{arith}
use native.Mathlib.Decide.{dec_lt, ℕ_discrete}
use lib.Dec.{T, ltb, leb, le→leb}
use borrow.Author.Tests.{lt-ltb, le-ltb, lt-leb, le-leb}
use lib.ListN.{get_or, set}
use Rattle.model.specs.Count.{count, some, lowest}
use Rattle.model.specs.Graph.{Graph, nodes, degree, marked, short}
use Rattle.model.proofs.Count.{by_test, test_true, test_false, and_left, and_both, and_false, some_holds, lowest_ext}
use Rattle.model.proofs.Peel.{marked_cleared, marked_other, degree_same_operator, degree_same_ride}
use Rattle.model.proofs.Cover.{degree_operator_le, degree_ride_le}
use Rattle.limits.specs.Limits.{byte_limit}
use Rattle.graph_drops.specs.Drop.{lacks, looked_from, Held}
use Rattle.graph_drops.proofs.Drop.{byte_unmarked}

-- a degree below 255 is below a limit exactly if it is below the limit in a byte
ltb_byte : (d l : ℕ) → d < 255 → ltb d (min l 255) ≡ ltb d l
ltb_byte d l h =
    elim (dec_lt d l) [
      | yes k ↦ lt-ltb d (min l 255) (omega arith) ∙ sym (lt-ltb d l k)
      | no k ↦ le-ltb d (min l 255) (omega arith) ∙ sym (le-ltb d l (omega arith))
    ]

pub byte_marked : (limit : ℕ → ℕ) (marks : List ℕ) (x : ℕ) → T (marked marks x) → byte_limit limit marks x ≡ min (limit x) 255
unfolding byte_limit
byte_marked limit marks x t = rw (test_true (marked marks x) t, byte_limit)

module _ (g : Graph) (few : g.operators ≤ 200) (few' : g.rides ≤ 60) (limit : ℕ → ℕ) (n c : ℕ) (degrees limits marks : List ℕ) (held : Held g limit n c degrees limits marks) where
  degree_byte : (x : ℕ) → degree g (marked marks) x < 255
  degree_byte x =
      elim (dec_lt x g.operators) [
        | yes l ↦ omega (arith, degree_operator_le g (marked marks) x l)
        | no l ↦ omega (arith, degree_ride_le g (marked marks) x (omega arith))
      ]

  -- whose degree is below its limit in bytes falls short, and nobody else
  pub lacks_short : (x : ℕ) → x < nodes g → lacks degrees limits x ≡ short g limit marks x
  unfolding short
  lacks_short x h =
      by_test (marked marks x)
      (λ t. ap₂ ltb (held.remaining.degrees_are x h) (held.limits_are x h ∙ byte_marked limit marks x t) ∙ ltb_byte (degree g (marked marks) x) (limit x) (degree_byte x) ∙ sym (ap (λ (b : Bool). b && ltb (degree g (marked marks) x) (limit x)) (test_true (marked marks x) t)))
      (λ k. ap (ltb (get_or degrees x 0)) (held.limits_are x h ∙ byte_unmarked limit marks x k) ∙ le-ltb (get_or degrees x 0) 0 (omega arith) ∙ sym (ap (λ (b : Bool). b && ltb (degree g (marked marks) x) (limit x)) (test_false (marked marks x) k)))

  pub lowest_lacking : lowest (nodes g) (lacks degrees limits) ≡ lowest (nodes g) (short g limit marks)
  lowest_lacking = lowest_ext (lacks degrees limits) (short g limit marks) (nodes g) lacks_short

-- after x was dropped, whoever falls short on the same side fell short before
module _ (g : Graph) (limit : ℕ → ℕ) (marks : List ℕ) (x y : ℕ) where
  abbrev rest : List ℕ
  rest = set marks x 0

  same : (z : ℕ) → z ≢ x → marked marks z ≡ marked rest z
  same z n = sym (marked_other marks x z n)

  short_before : degree g (marked marks) y ≡ degree g (marked rest) y → T (short g limit rest y) → T (short g limit marks y)
  unfolding short
  short_before e t =
      elim (ℕ_discrete y x) [
        | yes q ↦ absurd (marked_cleared marks x (subst (λ (z : ℕ). T (marked rest z)) q (and_left (marked rest y) (ltb (degree g (marked rest) y) (limit y)) t)))
        | no q ↦ subst T (ap₂ (λ (b : Bool) (d : ℕ). b && ltb d (limit y)) (marked_other marks x y q) (sym e)) t
      ]

  pub short_operator : x < g.operators → y < g.operators → T (short g limit rest y) → T (short g limit marks y)
  short_operator h l = short_before (degree_same_operator g (marked marks) (marked rest) x same h y l)

  pub short_ride : g.operators ≤ x → g.operators ≤ y → T (short g limit rest y) → T (short g limit marks y)
  short_ride h l = short_before (degree_same_ride g (marked marks) (marked rest) x same h y l)

-- where one looks on
module _ (degrees limits : List ℕ) (n x : ℕ) where
  abbrev again : Bool
  again = leb n x && some n (lacks degrees limits)

  from_start : again ≡ true → looked_from degrees limits n x ≡ 0
  unfolding looked_from
  from_start e = rw (e, looked_from)

  from_x : again ≡ false → looked_from degrees limits n x ≡ x
  unfolding looked_from
  from_x e = rw (e, looked_from)

  pub looked_operator : x < n → looked_from degrees limits n x ≡ x
  looked_operator h = from_x (ap (λ (b : Bool). b && some n (lacks degrees limits)) (lt-leb n x h))

  pub looked_none : count n (lacks degrees limits) ≡ 0 → looked_from degrees limits n x ≡ x
  unfolding some
  looked_none e = from_x (and_false (leb n x) (some n (lacks degrees limits)) (ap (ltb 0) e))

  pub looked_some : n ≤ x → count n (lacks degrees limits) ≢ 0 → looked_from degrees limits n x ≡ 0
  unfolding some
  looked_some h k = from_start (ap₂ (λ (a b : Bool). a && b) (le-leb n x h) (lt-ltb 0 (count n (lacks degrees limits)) (omega arith)))

-- nobody below the place where one looks on falls short
module _ (g : Graph) (few : g.operators ≤ 200) (few' : g.rides ≤ 60) (limit : ℕ → ℕ) (n c : ℕ) (marks : List ℕ) (x : ℕ) (h : x < nodes g) (first : (y : ℕ) → y < x → T (short g limit marks y) → ⊥) (degrees limits : List ℕ) (held : Held g limit n c degrees limits (set marks x 0)) where
  short_now : (y : ℕ) → y < nodes g → T (lacks degrees limits y) → T (short g limit (set marks x 0) y)
  short_now y l = subst T (lacks_short g few few' limit n c degrees limits (set marks x 0) held y l)

  passed : again degrees limits n x ≡ false → (y : ℕ) → y < x → T (lacks degrees limits y) → ⊥
  passed e y l t =
      let s = short_now y (omega arith) t in
      let sizes = held.remaining.operators_are in
      elim (dec_lt x n) [
        | yes k ↦ first y l (short_operator g limit marks x y (omega arith) (omega arith) s)
        | no k ↦
            elim (dec_lt y n) [
              | yes b ↦ subst T e (and_both (leb n x) (some n (lacks degrees limits)) (le→leb n x (omega arith)) (some_holds (lacks degrees limits) n y b t))
              | no b ↦ first y l (short_ride g limit marks x y (omega arith) (omega arith) s)
            ]
      ]

  pub looked_passed : (y : ℕ) → y < looked_from degrees limits n x → T (lacks degrees limits y) → ⊥
  looked_passed y l t =
      by_test (again degrees limits n x)
      (λ k. let z : ⊥ = omega (arith, from_start degrees limits n x (test_true (again degrees limits n x) k)) in z)
      (λ k. passed (test_false (again degrees limits n x) k) y (omega (arith, from_x degrees limits n x (test_false (again degrees limits n x) k))) t)

  pub looked_inside : looked_from degrees limits n x ≤ nodes g
  looked_inside = by_test (again degrees limits n x) (λ k. omega (arith, from_start degrees limits n x (test_true (again degrees limits n x) k))) (λ k. omega (arith, from_x degrees limits n x (test_false (again degrees limits n x) k)))
