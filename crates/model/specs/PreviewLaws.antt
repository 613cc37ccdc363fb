-- Laws of previews: document 02, 2.2.
use Rattle.std.specs.Prelude.{◌≡◌, ◌≢◌, true, false, List, [], ◌∷◌, ℕ, ◌≤◌, length, drop}
use Rattle.model.specs.declared.Message.{Message}
use Rattle.model.specs.Graph.{present}
use Rattle.model.specs.Layout.{Part, Index, Presence, Board, mark_places, places, of_parts, exact, copied, board_graph}
use Rattle.model.specs.Refusal.{refused_1, refused_2, first_number, board_short}
use Rattle.model.specs.Calls.{board_query}
use Rattle.model.specs.Message.{board_message, board_preview}
use Rattle.model.specs.QueryLaws.{IsCore}

-- Document 02, 2.2, of a preview on any board, of any message and with any spare board
pub record PreviewLaws (b : Board) (m : Message) (spare : Board) : Type 0 where
  -- where it isn't refused, its answer and the spare board are what the message gives on the board's words laid over the spare memory
  pub on_copy : (board_preview b m spare).answer.code ≡ 0 → board_preview b m spare ≡ board_message (copied b spare.part) m
  -- the message then sent to the board gives the same answer, and leaves the board equal to the spare board, to the lengths under Layout
  pub same_answer : (board_preview b m spare).answer.code ≡ 0 → (board_message b m).answer ≡ (board_preview b m spare).answer
  pub same_board : (board_preview b m spare).answer.code ≡ 0 → exact (board_message b m).board ≡ exact (board_preview b m spare).board
  -- refused, it leaves the spare board as it was, its head included, and its count is 0
  pub kept : (board_preview b m spare).answer.code ≢ 0 → (board_preview b m spare).board ≡ spare
  pub none_differ : (board_preview b m spare).answer.code ≢ 0 → (board_preview b m spare).answer.differ ≡ 0
  -- places of the spare parts past the lengths under Layout stay
  pub behind : (p : Part) → drop (places b.head p) ((board_preview b m spare).board.part p) ≡ drop (places b.head p) (spare.part p)
  -- where no spare part is too short it gets the message's number; where one is, the first of 1, 2 and 3 that applies
  pub same_number : board_short (of_parts b.head spare.part) ≡ false → (board_preview b m spare).answer.code ≡ (board_message b m).answer.code
  pub short_spare : board_short (of_parts b.head spare.part) ≡ true →
      (board_preview b m spare).answer.code ≡ first_number ((1, refused_1 b.head) ∷ (2, refused_2 b.head) ∷ (3, true) ∷ [])
  -- what the spare board holds on entry never matters, its head included
  pub any_answer : (other : Board) → ((p : Part) → length (spare.part p) ≡ length (other.part p)) → (board_preview b m spare).answer ≡ (board_preview b m other).answer
  pub any_board : (other : Board) → (board_preview b m spare).answer.code ≡ 0 → (board_preview b m other).answer.code ≡ 0 →
      exact (board_preview b m spare).board ≡ exact (board_preview b m other).board

-- the same of the index and the presence words that a preview left in spare memory: the core of the pairs of the spare board that count
abbrev pub PreviewThenQuery : Type 0
PreviewThenQuery =
    (b : Board) (m : Message) (spare : Board) (α β : ℕ) (marks : List ℕ) →
    (board_preview b m spare).answer.code ≡ 0 →
    mark_places b.head ≤ length marks →
    let left = (board_preview b m spare).board in
    IsCore (board_graph left) (present (left.part Presence)) α β (board_query left.head (left.part Index) (left.part Presence) α β marks)
