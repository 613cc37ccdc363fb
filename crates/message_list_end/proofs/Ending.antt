-- The index filled or not, by the numbers of the messages.
use mathlib.Core.Path.{◌≡◌, sym, ap, ◌∙◌, subst}
use mathlib.Core.Logic.{◌≢◌}
use mathlib.Core.Bool.{Bool, true, false}
use mathlib.Core.List.{List}
use Prim.Native.Nat.{ℕ, ◌+◌, ◌≤◌, zero-le}
use lib.Dec.{T, eqb}
use borrow.Author.Tests.{eq-eqb, ne_eqb}
use lib.ListN.{length, take}
use lib.Seq.{length-take-le, get_or-take}
use Rattle.std.specs.List.{IsAnyAnswer}
use Rattle.model.specs.Count.{some}
use Rattle.model.specs.Graph.{Graph, index_of}
use Rattle.model.specs.Layout.{over}
use Rattle.model.proofs.Count.{some_ext}
use Rattle.model.proofs.Search.{some_true, some_false}
use Rattle.message_list_end.specs.Ending.{taken_at, filled_index, index_turned}

-- one of the answers is 0, as the library looks for it
pub contains_taken : (answers : List ℕ) (r : Bool) → IsAnyAnswer (λ y b. eqb y 0 ≡ b) answers r → r ≡ some (length answers) (taken_at answers)
contains_taken answers true found = some_true (taken_at answers) (length answers) found.0 found.1 (subst T (sym (found.2 0)) tt)
contains_taken answers false none = some_false (taken_at answers) (length answers) (λ i k. subst T (none i 0 zero-le k))

module _ (n : ℕ) (g : Graph) (index answers : List ℕ) where
  pub filled_yes : some n (taken_at answers) ≡ true → filled_index n g index answers ≡ over (index_of g) index
  unfolding filled_index
  filled_yes e = rw (e, filled_index)

  pub filled_no : some n (taken_at answers) ≡ false → filled_index n g index answers ≡ index
  unfolding filled_index
  filled_no e = rw (e, filled_index)

  -- the first n answers, lent as a part
  pub filled_part : n ≤ length answers → filled_index (length (take n answers)) g index (take n answers) ≡ filled_index n g index answers
  unfolding filled_index
  filled_part l =
      ap (λ (t : Bool). elim t [ true ↦ over (index_of g) index | false ↦ index ])
      (ap (λ (k : ℕ). some k (taken_at (take n answers))) (length-take-le n answers l) ∙
      some_ext (taken_at (take n answers)) (taken_at answers) n (λ i k. ap (λ (x : ℕ). eqb x 0) (get_or-take n answers i 0 k)))

-- after the last turn, and before it
module _ (at n : ℕ) (g : Graph) (index answers : List ℕ) where
  pub index_last : at + 1 ≡ n → index_turned at n g index answers ≡ filled_index n g index answers
  unfolding index_turned
  index_last e = rw (eq-eqb (at + 1) n e, index_turned)

  pub index_on : at + 1 ≢ n → index_turned at n g index answers ≡ index
  unfolding index_turned
  index_on ne = rw (ne_eqb (at + 1) n ne, index_turned)
