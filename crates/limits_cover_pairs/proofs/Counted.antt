-- The marks of operators and of rides, counted in their parts.
use mathlib.Core.Path.{◌≡◌, ap, ◌∙◌}
use mathlib.Core.List.{List}
use Prim.Native.Nat.{ℕ, ◌+◌, ◌-◌, ◌≤◌, ◌<◌}
use native.Mathlib.Omega.{arith}
use lib.Dec.{eqb}
use lib.ListN.{length, get_or, take, drop}
use Rattle.model.specs.declared.Head.{Head}
use Rattle.model.specs.Count.{count}
use Rattle.model.specs.Graph.{marked}
use Rattle.model.specs.Layout.{mark_places}
use Rattle.model.specs.Calls.{counts}
use Rattle.model.proofs.Count.{count_ext}
use Rattle.model.proofs.Store.{first_length, first_at, part_length, part_at}

module _ (h : Head) (marks : List ℕ) (long : mark_places h ≤ length marks) where
  abbrev of_operators : List ℕ
  of_operators = take (h.operators - 0) marks

  abbrev of_rides : List ℕ
  of_rides = take (h.operators + h.rides - h.operators) (drop h.operators marks)

  operators_long : length of_operators ≡ h.operators
  operators_long = first_length marks h.operators (omega arith)

  rides_long : length of_rides ≡ h.rides
  rides_long = part_length marks h.operators h.rides long

  -- a part has no more places than there are nodes, and marks of 0 and 1
  module _ (few : h.operators ≤ 200) (few' : h.rides ≤ 60) (bits : (x : ℕ) → x < mark_places h → get_or marks x 0 ≤ 1) where
    pub operators_counted : (length of_operators ≤ 260) × ((i : ℕ) → i < length of_operators → get_or of_operators i 0 ≤ 1)
    operators_counted = (omega (arith, operators_long), λ i l. omega (arith, first_at marks h.operators (omega arith) i 0 (omega (arith, operators_long)), bits i (omega (arith, operators_long))))

    pub rides_counted : (length of_rides ≤ 260) × ((i : ℕ) → i < length of_rides → get_or of_rides i 0 ≤ 1)
    rides_counted = (omega (arith, rides_long), λ i l. omega (arith, part_at marks h.operators h.rides long i 0 (omega (arith, rides_long)), bits (h.operators + i) (omega (arith, rides_long))))

  pub counted : (r s : ℕ) → r ≡ count (length of_operators) (marked of_operators) → s ≡ count (length of_rides) (marked of_rides) → record { code = 0; operators = r; rides = s } ≡ counts h marks
  unfolding counts
  counted r s e f =
      let a = e ∙ ap (λ (k : ℕ). count k (marked of_operators)) operators_long ∙ count_ext (marked of_operators) (marked marks) h.operators (λ i l. ap (λ (z : ℕ). eqb z 1) (first_at marks h.operators (omega arith) i 0 l)) in
      let b = f ∙ ap (λ (k : ℕ). count k (marked of_rides)) rides_long ∙ count_ext (marked of_rides) (λ v. marked marks (h.operators + v)) h.rides (λ i l. ap (λ (z : ℕ). eqb z 1) (part_at marks h.operators h.rides long i 0 l)) in
      λ i. record { code = 0; operators = a i; rides = b i }
