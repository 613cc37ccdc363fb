-- Document 01, The program `cover`: its sample input and output. Document 02, 2.1: the same board with limits of 0.
use Rattle.std.specs.Prelude.{◌≡◌, List, [], ◌∷◌, ℕ, ◌/◌, ◌%◌}
use Rattle.cover_text.specs.Text.{bytes}
use Rattle.cover_report.specs.Program.{cover_text}

-- the bytes of 16-bit little-endian words
abbrev pub little_endian : List ℕ → List ℕ
little_endian [] = []
little_endian (w ∷ ws) = w % 256 ∷ w / 256 ∷ little_endian ws

-- document 01's board as input: head, pairs, α and β
abbrev pub board_input : ℕ → ℕ → List ℕ
board_input α β =
    little_endian (4 ∷ 3 ∷ 7 ∷ 0 ∷ 0 ∷ 1 ∷ 1 ∷ 2 ∷ 2 ∷ 3 ∷ 0 ∷ 1 ∷ 0 ∷ 1 ∷ 1 ∷ 2 ∷ 2 ∷ α ∷ β ∷ [])

-- the sample input
abbrev pub sample_input : List ℕ
sample_input = board_input 2 2

-- the sample output
abbrev pub sample_output : List ℕ
sample_output = bytes "cover 2 2 2 2\noperator 0 2\noperator 1 2\nride 0 2\nride 1 2\n"

-- limits of 0, by hand: row 1 is 3 3 3 2, then 2 3 2; row 2 is 2 2 1 0, then 2 2 1; there is no row 4
-- (0,3): all operators, with their levels in row 1, and ride 1
abbrev pub no_alpha_output : List ℕ
no_alpha_output = bytes "cover 0 3 4 1\noperator 0 3\noperator 1 3\noperator 2 3\noperator 3 2\nride 1 3\n"

-- (2,0): operators 0, 1, 2 and all rides
abbrev pub no_beta_output : List ℕ
no_beta_output = bytes "cover 2 0 3 3\noperator 0 2\noperator 1 2\noperator 2 1\nride 0 2\nride 1 2\nride 2 1\n"

-- (4,0): the rides alone, with level 0
abbrev pub no_row_output : List ℕ
no_row_output = bytes "cover 4 0 0 3\nride 0 0\nride 1 0\nride 2 0\n"

-- each of these inputs gives its output
pub record Printed : Type 0 where
  pub sample : cover_text sample_input ≡ sample_output
  pub no_alpha : cover_text (board_input 0 3) ≡ no_alpha_output
  pub no_beta : cover_text (board_input 2 0) ≡ no_beta_output
  pub no_row : cover_text (board_input 4 0) ≡ no_row_output
