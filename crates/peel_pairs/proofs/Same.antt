-- A peel looks at the limits of nodes, and at the pairs between marked nodes, alone: where two graphs and two limits agree on these, so do the outcomes.
use mathlib.Core.Path.{◌≡◌, refl, sym, ap, ap₂, ◌∙◌, subst}
use mathlib.Core.Bool.{Bool, true, false, not}
use mathlib.Core.List.{List, [], ◌∷◌}
use Prim.Native.Nat.{ℕ, zero, suc, ◌+◌, ◌-◌, ◌<◌}
use native.Mathlib.Omega.{arith}
use native.Mathlib.Decide.{dec_lt}
use lib.Dec.{T, ltb}
use lib.ListN.{length, set}
use Rattle.model.specs.Count.{bit, lowest}
use Rattle.model.specs.Graph.{Graph, nodes, degree, Inside, marked, short, settled, removals, without, peel}
use Rattle.model.specs.Calls.{peeled}
use Rattle.model.specs.CoverLaws.{changed}
use Rattle.model.proofs.Count.{and_same_left, and_same_right, count_ext, some_ext, lowest_ext}
use Rattle.model.proofs.Peel.{degree_operator, degree_ride, marked_less, peel_inside}

module _ (g : Graph) (c : ℕ → ℕ → Bool) (limit limit' : ℕ → ℕ) (came : List ℕ) (same_limit : (x : ℕ) → x < nodes g → limit x ≡ limit' x) (same_pairs : (u v : ℕ) → u < g.operators → v < g.rides → T (marked came u) → T (marked came (g.operators + v)) → g.cleared u v ≡ c u v) where
  -- of marks inside those that came
  module _ (s : List ℕ) (inside : Inside g (marked s) (marked came)) where
    degree_same : (x : ℕ) → x < nodes g → T (marked s x) → degree g (marked s) x ≡ degree (changed g c) (marked s) x
    degree_same x h m =
        elim (dec_lt x g.operators) [
          | yes l ↦
              degree_operator g (marked s) x l ∙
              count_ext _ _ g.rides (λ v k. and_same_left (g.cleared x v) (c x v) _ (λ n. same_pairs x v l k (inside x h m) (inside _ (omega arith) n))) ∙
              sym (degree_operator (changed g c) (marked s) x l)
          | no l ↦
              (let v : ℕ = x - g.operators in
              let e : x ≡ g.operators + v = omega arith in
              degree_ride g (marked s) x (omega arith) ∙
              count_ext _ _ g.operators (λ u k. and_same_left (g.cleared u v) (c u v) _ (λ n. same_pairs u v k (omega arith) (inside u (omega arith) n) (subst (λ (y : ℕ). T (marked came y)) e (inside x h m)))) ∙
              sym (degree_ride (changed g c) (marked s) x (omega arith)))
        ]

    short_same : (x : ℕ) → x < nodes g → short g limit s x ≡ short (changed g c) limit' s x
    unfolding short
    short_same x h = and_same_right (marked s x) _ _ (λ m. ap₂ ltb (degree_same x h m) (same_limit x h))

    settled_same : settled g limit s ≡ settled (changed g c) limit' s
    unfolding settled
    settled_same = ap not (some_ext (short g limit s) (short (changed g c) limit' s) (nodes g) short_same)

    lowest_same : lowest (nodes g) (short g limit s) ≡ lowest (nodes g) (short (changed g c) limit' s)
    lowest_same = lowest_ext (short g limit s) (short (changed g c) limit' s) (nodes g) short_same

  removals_same : (f : ℕ) (s : List ℕ) → Inside g (marked s) (marked came) → removals g limit f s ≡ removals (changed g c) limit' f s
  unfolding removals
  removals_same zero s inside = refl
  removals_same (suc f) s inside =
      let x : ℕ = lowest (nodes g) (short g limit s) in
      let e = lowest_same s inside in
      let rest = removals_same f (set s x 0) (λ y h t. inside y h (marked_less s x y t)) ∙ ap (λ (y : ℕ). removals (changed g c) limit' f (set s y 0)) e in
      λ i. elim (settled_same s inside i) [ true ↦ [] | false ↦ e i ∷ rest i ]

  peel_same : (allowed : ℕ) → peel g limit allowed came ≡ peel (changed g c) limit' allowed came
  unfolding peel
  peel_same allowed = ap (without came) (removals_same allowed came (λ y h t. t))

  pub peeled_same : (allowed : ℕ) → peeled g limit allowed came ≡ peeled (changed g c) limit' allowed came
  unfolding peeled
  peeled_same allowed =
      let s : List ℕ = peel g limit allowed came in
      let e = settled_same s (λ y h. peel_inside g limit allowed came y) ∙ ap (settled (changed g c) limit') (peel_same allowed) in
      let steps = ap length (removals_same allowed came (λ y h t. t)) in
      λ i. record { answer = record { code = 0; settled = bit (e i); steps = steps i }; marks = peel_same allowed i }
