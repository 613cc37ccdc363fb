-- The marks and counts of one row, where the operators are marked and counted, then the rides.
use mathlib.Core.Path.{◌≡◌, refl, sym, ap, ◌∙◌, subst}
use mathlib.Core.List.{List, ◌++◌}
use Prim.Native.Nat.{ℕ, ◌+◌, ◌-◌, ◌≤◌}
use native.Mathlib.Nat.{zero-add}
use native.Mathlib.Omega.{arith}
use lib.ListN.{length, take, drop, length-take, length-drop, length-append}
use lib.Seq.{drop-drop, drop_at}
use borrow.Rule.Slice.PartMut.{drop_put}
use Rattle.model.specs.Count.{bit, count}
use Rattle.model.proofs.Count.{count_ext}
use Rattle.model.proofs.Store.{put_before, put_at, front_at}
use Rattle.query_marks.specs.Marks.{RowMarked, in_row}
use Rattle.query_marks.proofs.Part.{PartMarked}

-- one row of w nodes
module _ (row presence marks : List ℕ) (n w operator ride : ℕ) (wide : length row ≡ w) (h : n ≤ w) (l : w ≤ length marks) (o : ℕ) (words : List ℕ) (m : PartMarked row presence operator 0 (n - 0) o words) (same : length words ≡ length (take (n - 0) (drop 0 marks))) where
  -- the marks once the operators are done
  abbrev done : List ℕ
  done = words ++ drop (n - 0) (drop 0 marks)

  words_long : length words ≡ n
  words_long = same ∙ simp length-take (omega arith)

  done_long : length done ≡ length marks
  done_long = simp (length-append, length-drop) (omega (arith, words_long))

  done_rest : drop w done ≡ drop w marks
  done_rest =
      ap (λ (k : ℕ). drop k done) (let e : w ≡ n + (w - n) = omega arith in e) ∙
      sym (drop-drop (w - n) n done) ∙
      ap (drop (w - n)) (drop_at words (drop (n - 0) marks) n words_long) ∙
      drop-drop (w - n) (n - 0) marks ∙
      ap (λ (k : ℕ). drop k marks) (let e : n - 0 + (w - n) ≡ w = omega arith in e)

  module _ (r : ℕ) (words' : List ℕ) (m' : PartMarked row presence ride n (w - n) r words') (same' : length words' ≡ length (take (w - n) (drop n done))) where
    long' : length words' ≡ w - n
    long' = same' ∙ simp (length-take, length-drop) (omega (arith, done_long))

    -- the marks once the rides are done too
    abbrev last : List ℕ
    last = take n done ++ (words' ++ drop (w - n) (drop n done))

    pub sides_marked : RowMarked row n presence operator ride marks (record { code = 0; operators = o; rides = r }) last
    sides_marked =
        let rest : List ℕ = drop (w - n) (drop n done) in
        let inside : n ≤ length done = omega (arith, done_long) in
        record {
          code = refl;
          operators = m.counted ∙ ap (λ (k : ℕ). count k (λ (i : ℕ). in_row row presence operator (0 + i))) (let e : n - 0 ≡ n = omega arith in e) ∙ count_ext (λ (i : ℕ). in_row row presence operator (0 + i)) (in_row row presence operator) n (λ i k. ap (in_row row presence operator) (zero-add i));
          rides = m'.counted ∙ ap (λ (k : ℕ). count (k - n) (λ (i : ℕ). in_row row presence ride (n + i))) (sym wide);
          operator_marks = λ i k. put_before done words' rest n inside i 0 k ∙ front_at marks words (n - 0) (omega (arith, words_long)) i 0 (omega arith) ∙ m.marks_are i (omega arith) ∙ ap (λ (z : ℕ). bit (in_row row presence operator z)) (zero-add i);
          ride_marks = λ i k. put_at done words' rest n inside i 0 (omega (arith, long')) ∙ m'.marks_are i (omega arith);
          tail = subst (λ (k : ℕ). drop k last ≡ drop k marks) (sym wide) (drop_put n w done words' h (omega (arith, done_long)) long' ∙ done_rest);
        }
