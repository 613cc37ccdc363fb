-- A message list that is not refused ends as its messages sent by message calls, and so does each first part of it.
use mathlib.Core.Path.{◌≡◌, refl, ap, ◌∙◌}
use mathlib.Core.List.{List, [], ◌∷◌, ◌++◌}
use Prim.Native.Nat.{ℕ, suc}
use native.Mathlib.Nat.{zero-add}
use native.Mathlib.Omega.{arith}
use lib.ListN.{length, set, drop, length-append}
use lib.Seq.{sets, sets-eq}
use Rattle.model.specs.declared.Message.{Message}
use Rattle.model.specs.Layout.{Board, over}
use Rattle.model.specs.Refusal.{list_refusal}
use Rattle.model.specs.Message.{board_message, in_order, board_messages}
use Rattle.model.proofs.Refusal.{list_none, list_accepted}
use Rattle.model.proofs.Taken.{list_taken, list_keeps}
use Rattle.model_delivery.specs.Demand3.{board_by_calls, numbers_by_calls, ListIsCalls}

length_numbers : (b : Board) (ms : List Message) → length (numbers_by_calls b ms) ≡ length ms
unfolding numbers_by_calls
length_numbers b [] = refl
length_numbers b (m ∷ ms) = ap suc (length_numbers (board_message b m).board ms)

-- the messages in order store the numbers one after the other
in_order_calls : (ms : List Message) (at : ℕ) (b : Board) (answers : List ℕ) → in_order ms at b answers ≡ record { code = 0; board = board_by_calls b ms; answers = sets answers at (numbers_by_calls b ms) }
unfolding in_order board_by_calls numbers_by_calls
in_order_calls [] at b answers = refl
in_order_calls (m ∷ ms) at b answers =
    in_order_calls ms (suc at) (board_message b m).board (set answers at (board_message b m).answer.code)

module _ (b : Board) (ms : List Message) (answers : List ℕ) where
  calls : list_refusal b (length ms) answers ≡ 0 → board_messages b ms answers ≡ record { code = 0; board = board_by_calls b ms; answers = over (numbers_by_calls b ms) answers }
  calls e =
      let n = numbers_by_calls b ms in
      let stored : sets answers 0 n ≡ over n answers = sets-eq n answers 0 (omega (arith, length_numbers b ms, (list_none b (length ms) answers e).1)) ∙ ap (λ (k : ℕ). n ++ drop k answers) (zero-add (length n)) in
      list_taken b ms answers e ∙
      in_order_calls ms 0 b answers ∙
      (λ j. record { code = 0; board = board_by_calls b ms; answers = stored j })

  -- a first part of a list that is not refused is not refused
  first : (rest : List Message) → list_refusal b (length (ms ++ rest)) answers ≡ 0 → list_refusal b (length ms) answers ≡ 0
  first rest e =
      let a = list_none b (length (ms ++ rest)) answers e in
      list_accepted b (length ms) answers a.0 (omega (arith, a.1, length-append ms rest))

pub list_is_calls : ListIsCalls
list_is_calls =
    record {
      first_part = λ b ms rest answers e. calls b ms answers (first b ms answers rest e);
      all = calls;
      keeps = list_keeps;
    }
