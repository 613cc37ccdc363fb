-- The marks and counts of one row, where both sides have the same least level: all are marked and counted together, the rides in their marks once more.
use mathlib.Core.Path.{◌≡◌, refl, sym, ap, ◌∙◌, subst}
use mathlib.Core.Bool.{Bool}
use mathlib.Core.List.{List, ◌++◌}
use Prim.Native.Nat.{ℕ, ◌+◌, ◌-◌, ◌≤◌, ◌<◌}
use native.Mathlib.Nat.{zero-add}
use native.Mathlib.Omega.{arith}
use lib.Dec.{eqb}
use lib.ListN.{length, get_or, take, drop, length-take, length-drop, length-append, get_or-append}
use lib.Seq.{get_or-take, get_or-drop, drop_at}
use Rattle.model.specs.declared.Counts.{Counts}
use Rattle.model.specs.Count.{bit, count}
use Rattle.model.specs.Graph.{marked}
use Rattle.model.proofs.Count.{bit_le, bit_test, count_append, count_ext}
use Rattle.query_marks.specs.Marks.{RowMarked, in_row}
use Rattle.query_marks.proofs.Part.{PartMarked}

module _ (row presence marks : List ℕ) (n least : ℕ) (h : n ≤ length row) (l : length row ≤ length marks) (all : ℕ) (words : List ℕ) (m : PartMarked row presence least 0 (length row - 0) all words) (same : length words ≡ length (take (length row - 0) marks)) where
  abbrev w : ℕ
  w = length row

  -- who is in
  abbrev test : ℕ → Bool
  test = in_row row presence least

  abbrev done : List ℕ
  done = words ++ drop (w - 0) marks

  -- the marks of the rides
  abbrev part : List ℕ
  part = take (w - n) (drop n done)

  words_long : length words ≡ w
  words_long = same ∙ simp length-take (omega arith)

  done_at : (i : ℕ) → i < w → get_or done i 0 ≡ bit (test i)
  done_at i k =
      get_or-append words (drop (w - 0) marks) 0 i (omega (arith, words_long)) ∙
      m.marks_are i (omega arith) ∙
      ap (λ (z : ℕ). bit (test z)) (zero-add i)

  all_counted : all ≡ count w test
  all_counted =
      m.counted ∙
      ap (λ (k : ℕ). count k (λ (i : ℕ). test (0 + i))) (let e : w - 0 ≡ w = omega arith in e) ∙
      count_ext (λ (i : ℕ). test (0 + i)) test w (λ i k. ap test (zero-add i))

  pub part_long : length part ≡ w - n
  part_long = simp (length-take, length-drop, length-append) (omega (arith, words_long))

  part_at_ride : (i : ℕ) → i < w - n → get_or part i 0 ≡ bit (test (n + i))
  part_at_ride i k = get_or-take (w - n) (drop n done) i 0 k ∙ get_or-drop n done i 0 ∙ done_at (n + i) (omega arith)

  pub part_bits : (i : ℕ) → i < length part → get_or part i 0 ≤ 1
  part_bits i k =
      let l : i < w - n = omega (arith, part_long) in
      omega (arith, part_at_ride i l, bit_le (test (n + i)))

  module _ (r : ℕ) (counted : r ≡ count (length part) (marked part)) where
    rides_are : r ≡ count (w - n) (λ i. test (n + i))
    rides_are =
        counted ∙
        ap (λ (k : ℕ). count k (marked part)) part_long ∙
        count_ext (marked part) (λ (i : ℕ). test (n + i)) (w - n) (λ i k. ap (λ (z : ℕ). eqb z 1) (part_at_ride i k) ∙ bit_test (test (n + i)))

    all_is : all ≡ count n test + r
    all_is =
        all_counted ∙
        ap (λ (k : ℕ). count k test) (let e : w ≡ n + (w - n) = omega arith in e) ∙
        count_append test n (w - n) ∙
        ap (λ (k : ℕ). count n test + k) (sym rides_are)

    pub rides_le : r ≤ all
    rides_le = omega (arith, all_is)

    pub both_marked : RowMarked row n presence least least marks (record { code = 0; operators = all - r; rides = r }) done
    both_marked =
        record {
          code = refl;
          operators = omega (arith, all_is);
          rides = rides_are;
          operator_marks = λ i k. done_at i (omega arith);
          ride_marks = λ i k. done_at (n + i) (omega arith);
          tail = drop_at words (drop (w - 0) marks) w words_long ∙ ap (λ (k : ℕ). drop k marks) (let e : w - 0 ≡ w = omega arith in e);
        }

-- the least level of an operator, where it is that of a ride
pub same_least : {row presence marks marks' : List ℕ} {n a b : ℕ} {r : Counts} → b ≡ a → RowMarked row n presence b b marks r marks' → RowMarked row n presence a b marks r marks'
same_least {row} {presence} {marks} {marks'} {n} {a} {b} {r} e m =
    subst (λ (least : ℕ). RowMarked row n presence least b marks r marks') e m
