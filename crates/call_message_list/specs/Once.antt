-- Inner contracts: the turns of a message list. Each message is entered, and the index is filled once, after the last of them, if one was taken:
-- no number looks at a word of the index.
use Rattle.std.specs.Prelude.{true, false, List, [], ◌∷◌, ℕ, suc, ◌+◌, eqb, set}
use Rattle.model.specs.declared.Message.{Message}
use Rattle.model.specs.Layout.{Index, Board, board_graph}
use Rattle.model.specs.Message.{board_message, ListOutcome}
use Rattle.message_entry.specs.Enter.{with_index, entered_valid}
use Rattle.message_list_end.specs.Ending.{filled_index}

-- a board with its index filled, if one of the first n answers is 0
abbrev pub finished : ℕ → Board → List ℕ → Board
finished n b answers = with_index b (filled_index n (board_graph b) (b.part Index) answers)

-- one turn of n: a message is entered and its number stored at its place; after the last one the index is filled
unfoldable pub turned : ℕ → Board → Message → ℕ → List ℕ → ListOutcome
turned n b m at answers =
    let numbers : List ℕ = set answers at (board_message b m).answer.code in
    record {
      code = 0;
      board = elim (eqb (at + 1) n) [ true ↦ finished n (entered_valid b m) numbers | false ↦ entered_valid b m ];
      answers = numbers;
    }

-- the turns of n from the place at on
unfoldable pub turns : ℕ → List Message → ℕ → Board → List ℕ → ListOutcome
turns n [] at b answers = record { code = 0; board = b; answers = answers }
turns n (m ∷ ms) at b answers =
    turns n ms (suc at) (turned n b m at answers).board (turned n b m at answers).answers
