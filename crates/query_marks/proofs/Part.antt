-- The marks of a part of a row, by the levels of the whole row and the presence words of all.
use mathlib.Core.Path.{◌≡◌, sym, ap, ap₂, ◌∙◌}
use mathlib.Core.Bool.{Bool, ◌&&◌}
use mathlib.Core.List.{List}
use Prim.Native.Nat.{ℕ, ◌+◌, ◌-◌, ◌≤◌, ◌<◌}
use native.Mathlib.Nat.{zero-add}
use native.Mathlib.Omega.{arith}
use lib.Dec.{leb, eqb}
use lib.ListN.{length, get_or, take, drop, replicate, length-take, length-drop, length-replicate}
use lib.Seq.{get_or-take, get_or-drop}
use Rattle.model.specs.Count.{bit, count}
use Rattle.model.specs.Graph.{present}
use Rattle.model.proofs.Count.{count_ext}
use Rattle.model.proofs.Store.{getD_zeros}
use Rattle.query_sides.specs.Marked.{Marked}
use Rattle.query_marks.specs.Marks.{in_row}

-- the marks of the k nodes of a row from `first` on, and how many are 1
pub record PartMarked (row presence : List ℕ) (least first k r : ℕ) (words : List ℕ) : Type 0 where
  pub marks_are : (i : ℕ) → i < k → get_or words i 0 ≡ bit (in_row row presence least (first + i))
  pub counted : r ≡ count k (λ i. in_row row presence least (first + i))

module _ (row presence : List ℕ) (least first k r : ℕ) (words : List ℕ) where
  -- where the levels that were lent are those of the row
  part_marked : (levels : List ℕ) → length levels ≡ k → ((i : ℕ) → i < k → get_or levels i 0 ≡ get_or row (first + i) 0) → Marked levels (take k (drop first presence)) least r words → PartMarked row presence least first k r words
  part_marked levels long same m =
      record {
        marks_are = λ i l. m.marks_are i (omega arith) ∙ ap bit (in_part i l);
        counted = m.counted ∙ ap (λ (n : ℕ). count n test) long ∙ count_ext test (λ i. in_row row presence least (first + i)) k in_part;
      }
    where
      test : ℕ → Bool
      test i = present (take k (drop first presence)) i && leb least (get_or levels i 0)

      in_part : (i : ℕ) → i < k → test i ≡ in_row row presence least (first + i)
      in_part i l =
          ap₂ (λ (a b : ℕ). eqb a 1 && leb least b) (get_or-take k (drop first presence) i 0 l ∙ get_or-drop first presence i 0) (same i l)

  pub levels_part : first + k ≤ length row → Marked (take k (drop first row)) (take k (drop first presence)) least r words → PartMarked row presence least first k r words
  levels_part inside =
      part_marked (take k (drop first row)) (simp (length-take, length-drop) (omega arith))
      (λ i l. get_or-take k (drop first row) i 0 l ∙ get_or-drop first row i 0)

-- of a row that was lent whole
pub row_part : (row presence : List ℕ) (least r : ℕ) (words : List ℕ) → Marked row (take (length row - 0) presence) least r words → PartMarked row presence least 0 (length row - 0) r words
row_part row presence least r words =
    part_marked row presence least 0 (length row - 0) r words row (omega arith) (λ i l. ap (λ (z : ℕ). get_or row z 0) (sym (zero-add i)))

-- of a row of zeros
pub zeros_part : (w : ℕ) (presence : List ℕ) (least first k r : ℕ) (words : List ℕ) → first + k ≤ length presence → Marked (replicate (length (take k (drop first presence))) 0) (take k (drop first presence)) least r words → PartMarked (replicate w 0) presence least first k r words
zeros_part w presence least first k r words inside =
    part_marked (replicate w 0) presence least first k r words
    (replicate (length (take k (drop first presence))) 0)
    (length-replicate {A = ℕ} (length (take k (drop first presence))) 0 ∙ simp (length-take, length-drop) (omega arith))
    (λ i l. getD_zeros (length (take k (drop first presence))) i ∙ sym (getD_zeros w (first + i)))
