-- Inner contracts: the marks of one side of a row, word by word.
use Rattle.std.specs.Prelude.{◌≡◌, Bool, ◌&&◌, List, ℕ, ◌<◌, leb, length, get_or}
use Rattle.model.specs.Count.{bit, count}
use Rattle.model.specs.Graph.{present}

-- the marks below i are those of a test, and r of them are 1
pub record Upto (test : ℕ → Bool) (i r : ℕ) (marks : List ℕ) : Type 0 where
  pub marks_are : (k : ℕ) → k < i → get_or marks k 0 ≡ bit (test k)
  pub counted : r ≡ count i test

-- marks of levels: 1 exactly if the node is present and its level is at least the given one, and how many are 1
pub record Marked (levels presence : List ℕ) (least r : ℕ) (marks : List ℕ) : Type 0 where
  pub marks_are : (i : ℕ) → i < length levels → get_or marks i 0 ≡ bit (present presence i && leb least (get_or levels i 0))
  pub counted : r ≡ count (length levels) (λ i. present presence i && leb least (get_or levels i 0))
