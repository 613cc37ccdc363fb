-- Document 01, Message and Message list, and document 02, 2.2, Preview: each a function from all that comes in to all that comes out.
use Rattle.std.specs.Prelude.{List, [], ◌∷◌, ℕ, zero, suc, length, set}
use Rattle.model.specs.declared.Message.{Message}
use Rattle.model.specs.declared.Answer.{Answer}
use Rattle.model.specs.Layout.{Index, Board, index_places, onto, copied, differing}
use Rattle.model.specs.Contents.{slot, entry, put, contents, board_of}
use Rattle.model.specs.Refusal.{message_refusal, preview_refusal, list_refusal}

-- what a message gives: its answer, and the board at exit; a preview: its answer, and the spare board at exit
pub record MessageOutcome : Type 0 where
  pub answer : Answer
  pub board : Board

-- the board after a taken message: it says the message's entry at the message's slot, and all else as before; the index is that of the pairs that then count
unfoldable pub board_after : Board → Message → Board
board_after b m = onto (board_of b.head (put (contents b) (slot m) (entry m))) b.part

-- Message
unfoldable pub board_message : Board → Message → MessageOutcome
board_message b m =
    elim (message_refusal b m) [
      | zero ↦
          record {
            answer = record {
              code = 0;
              differ = differing (index_places b.head) (b.part Index) ((board_after b m).part Index);
            };
            board = board_after b m;
          }
      | suc k ↦ record { answer = record { code = suc k; differ = 0 }; board = b }
    ]

-- Preview: what the message gives on a copy of the board in the spare memory; refused, the spare board stays, its head included
unfoldable pub board_preview : Board → Message → Board → MessageOutcome
board_preview b m spare =
    elim (preview_refusal b m spare.part) [
      | zero ↦ board_message (copied b spare.part) m
      | suc k ↦ record { answer = record { code = suc k; differ = 0 }; board = spare }
    ]

-- what a message list gives: its number, the board and the answer list at exit
pub record ListOutcome : Type 0 where
  pub code : ℕ
  pub board : Board
  pub answers : List ℕ

-- the messages taken in order; each one's answer number goes to its place of the answer list, from the place at on
unfoldable pub in_order : List Message → ℕ → Board → List ℕ → ListOutcome
in_order [] at b answers = record { code = 0; board = b; answers = answers }
in_order (m ∷ ms) at b answers =
    in_order ms (suc at) (board_message b m).board (set answers at (board_message b m).answer.code)

-- Message list
unfoldable pub board_messages : Board → List Message → List ℕ → ListOutcome
board_messages b ms answers =
    elim (list_refusal b (length ms) answers) [
      | zero ↦ in_order ms 0 b answers
      | suc k ↦ record { code = suc k; board = b; answers = answers }
    ]
