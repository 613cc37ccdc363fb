-- The sum of marks that are 0 or 1 counts those that are 1.
use mathlib.Core.Path.{◌≡◌, sym, ap, ◌∙◌, subst}
use mathlib.Core.List.{List}
use Prim.Native.Nat.{ℕ, zero, suc, ◌+◌, ◌≤◌, ◌<◌}
use native.Mathlib.Numerals.{add-one}
use native.Mathlib.Omega.{arith}
use lib.ListN.{length, get_or, take}
use lib.Seq.{take-length}
use Rattle.std.specs.List.{sum}
use Rattle.std.proofs.lemmas.List.Sums.{fold_more}
use Rattle.model.specs.Count.{count}
use Rattle.model.specs.Graph.{marked}
use Rattle.model.proofs.Count.{bit_of, count_le, count_more, count_none}

module _ (l : List ℕ) (small : (i : ℕ) → i < length l → get_or l i 0 ≤ 1) where
  first_marks : (k : ℕ) → k ≤ length l → sum (take k l) ≡ count k (marked l)
  first_marks zero b = sym (count_none (marked l))
  first_marks (suc k) b =
      subst (λ (n : ℕ). sum (take n l) ≡ count n (marked l)) (add-one k)
      (omega (arith, first_marks k (omega arith), fold_more (λ (a x : ℕ). a + x) 0 l k 0 (omega arith), count_more (marked l) k, bit_of (get_or l k 0) (small k (omega arith))))

  pub sum_marks : sum l ≡ count (length l) (marked l)
  sum_marks = ap sum (sym (take-length l)) ∙ first_marks (length l) (omega arith)

  pub sum_fits : length l ≤ 260 → sum l < 65536
  sum_fits b = omega (arith, sum_marks, count_le (marked l) (length l))
