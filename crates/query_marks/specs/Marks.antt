-- Inner contracts: the marks of one row of the index, word by word.
use Rattle.std.specs.Prelude.{◌≡◌, Bool, ◌&&◌, List, ℕ, ◌+◌, ◌-◌, ◌<◌, ◌≤◌, leb, length, get_or, drop}
use Rattle.model.specs.declared.Counts.{Counts}
use Rattle.model.specs.Count.{bit, count}
use Rattle.model.specs.Graph.{present}

-- the node i of a row is present, and its level is at least the given one
abbrev pub in_row : List ℕ → List ℕ → ℕ → ℕ → Bool
in_row row presence least i = present presence i && leb least (get_or row i 0)

-- a row of n operators and at most 260 nodes in all, and for each node a word of presence and a mark
pub record FitsRow (row : List ℕ) (n : ℕ) (presence marks : List ℕ) : Type 0 where
  pub both_sides : n ≤ length row
  pub with_presence : length row ≤ length presence
  pub with_marks : length row ≤ length marks
  pub few : length row ≤ 260

-- marks and counts of one row of n operators and the rides, with the least level of an operator and of a ride; marks past the row are as they came
pub record RowMarked (row : List ℕ) (n : ℕ) (presence : List ℕ) (operator ride : ℕ) (marks : List ℕ) (r : Counts) (marks' : List ℕ) : Type 0 where
  pub code : r.code ≡ 0
  pub operators : r.operators ≡ count n (in_row row presence operator)
  pub rides : r.rides ≡ count (length row - n) (λ i. in_row row presence ride (n + i))
  pub operator_marks : (i : ℕ) → i < n → get_or marks' i 0 ≡ bit (in_row row presence operator i)
  pub ride_marks : (i : ℕ) → i < length row - n → get_or marks' (n + i) 0 ≡ bit (in_row row presence ride (n + i))
  pub tail : drop (length row) marks' ≡ drop (length row) marks
