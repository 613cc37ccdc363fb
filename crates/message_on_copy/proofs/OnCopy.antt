-- A preview that is not refused can copy the board, and take the message there.
use mathlib.Core.Path.{◌≡◌, ap, ◌∙◌}
use mathlib.Core.Bool.{false}
use Rattle.model.specs.declared.Message.{Message}
use Rattle.model.specs.Layout.{Parts, Board, of_parts, copied}
use Rattle.model.specs.Refusal.{board_short, message_refusal, preview_refusal}
use Rattle.model.specs.Message.{MessageOutcome, board_message}
use Rattle.model.proofs.Count.{test_false}
use Rattle.model.proofs.Refusal.{table_long}
use Rattle.model.proofs.Preview.{preview_none, copy_taken}

module _ (b : Board) (m : Message) (spare : Parts) (none : preview_refusal b m spare ≡ 0) where
  -- the board and the spare memory are long enough to copy
  pub both_long : (board_short b ≡ false) × (board_short (of_parts b.head spare) ≡ false)
  both_long =
      let n = preview_none b m spare none in
      (test_false (board_short b) (table_long b n.0.table), test_false (board_short (of_parts b.head spare)) n.1)

  module _ (copy : Board) (e : copy ≡ copied b spare) where
    -- the message is not refused on the copy
    pub copy_none : message_refusal copy m ≡ 0
    copy_none = ap (λ (x : Board). message_refusal x m) e ∙ copy_taken b m spare none

    -- and gives there what it gives on the board copied
    pub taken_there : (o : MessageOutcome) → o ≡ board_message copy m → o ≡ board_message (copied b spare) m
    taken_there o q = q ∙ ap (λ (x : Board). board_message x m) e
