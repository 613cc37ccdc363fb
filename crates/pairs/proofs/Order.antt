-- The count of misplaced pairs, place by place, and what it says of number 5; the range of the pairs that are accepted.
use mathlib.Core.Path.{◌≡◌, sym, ap, ◌∙◌, subst}
use mathlib.Core.Bool.{true, false, not, ◌||◌}
use mathlib.Core.List.{List}
use Prim.Native.Nat.{ℕ, zero, suc, ◌+◌, ◌-◌, ◌≤◌, ◌<◌}
use native.Mathlib.Omega.{arith}
use native.Mathlib.Decide.{dec_lt}
use lib.Dec.{T, ltb, eqb}
use borrow.Author.Tests.{lt-ltb, ne_eqb}
use lib.ListN.{get_or}
use Rattle.model.specs.declared.Head.{Head}
use Rattle.model.specs.Refusal.{before, out_of_range, misplaced, refused_5}
use Rattle.model.specs.Count.{bit, count, some}
use Rattle.model.proofs.Count.{test_true, or_false, count_more, some_holds}
use Rattle.model.proofs.Pairs.{table_pairs}
use Rattle.pairs.specs.Accepted.{InRange, AcceptedPairs}

-- a number is 0 where it is not above 0
zero_test : (n : ℕ) → eqb n 0 ≡ not (ltb 0 n)
zero_test n = elim (dec_lt 0 n) [ yes l ↦ rw (lt-ltb 0 n l, ne_eqb n 0 (omega arith)) | no l ↦ (let e : n ≡ 0 = omega arith in rw e) ]

module _ (h : Head) (operators rides : List ℕ) where
  -- the first pair is misplaced where it is out of range
  pub first_place : misplaced h operators rides 0 ≡ out_of_range h (get_or operators 0 0) (get_or rides 0 0)
  unfolding misplaced
  first_place = or_false (out_of_range h (get_or operators 0 0) (get_or rides 0 0))

  -- one place more, by the values there and before
  pub misplaced_more : (i : ℕ) → 1 ≤ i → count (i + 1) (misplaced h operators rides) ≡ count i (misplaced h operators rides) + bit (out_of_range h (get_or operators i 0) (get_or rides i 0) || not (before (get_or operators (i - 1) 0) (get_or rides (i - 1) 0) (get_or operators i 0) (get_or rides i 0)))
  unfolding misplaced
  misplaced_more zero l = absurd (let z : ⊥ = omega arith in z)
  misplaced_more (suc i) l = rw (let e : suc i - 1 ≡ i = omega arith in e) (count_more (misplaced h operators rides) (suc i))

  -- where the first pair is misplaced, number 5 applies
  pub first_misplaced : 0 < h.pairs → out_of_range h (get_or operators 0 0) (get_or rides 0 0) ≡ true → false ≡ not (refused_5 h operators rides)
  unfolding refused_5
  first_misplaced l e = sym (ap not (test_true (some h.pairs (misplaced h operators rides)) (some_holds (misplaced h operators rides) h.pairs 0 l (subst T (sym (first_place ∙ e)) tt))))

  -- where none is misplaced, number 5 does not apply
  pub none_misplaced : eqb (count h.pairs (misplaced h operators rides)) 0 ≡ not (refused_5 h operators rides)
  unfolding refused_5 some
  none_misplaced = zero_test (count h.pairs (misplaced h operators rides))

-- the pairs of an accepted pair table are in range
pub accepted_range : (h : Head) (operators rides : List ℕ) → AcceptedPairs h operators rides → InRange h.pairs h.operators h.rides operators rides
accepted_range h operators rides accepted i l = let p = table_pairs h operators rides accepted.ordered in (p.operator i l, p.ride i l)
