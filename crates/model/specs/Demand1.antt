-- Demand 1 over all calls, as far as no single contract says it.
use Rattle.std.specs.Prelude.{◌≡◌, ◌≢◌, List, ℕ, ◌<◌, length, get_or}
use Rattle.model.specs.declared.Head.{Head}
use Rattle.model.specs.declared.Message.{Message}
use Rattle.model.specs.declared.Bands.{Bands}
use Rattle.model.specs.Layout.{Board}
use Rattle.model.specs.Calls.{board_build, board_query, board_peel, board_own_cover}
use Rattle.model.specs.Crowd.{board_crowd_limits, board_crowd_cover}
use Rattle.model.specs.Message.{board_message, board_preview, board_messages}

-- Document 02, 2.1: no call gives 11, and a list that isn't refused gives it to none of its messages
pub record NeverEleven : Type 0 where
  pub build : (b : Board) (start : ℕ) → (board_build b start).code ≢ 11
  pub query : (h : Head) (index presence : List ℕ) (α β : ℕ) (marks : List ℕ) → (board_query h index presence α β marks).answer.code ≢ 11
  pub peel : (h : Head) (operators rides presence minimums marks : List ℕ) (α β allowed : ℕ) →
      (board_peel h operators rides presence minimums marks α β allowed).answer.code ≢ 11
  pub own_cover : (h : Head) (operators rides presence minimums : List ℕ) (α β : ℕ) (marks : List ℕ) →
      (board_own_cover h operators rides presence minimums α β marks).answer.code ≢ 11
  pub crowd_limits : (t : Bands) (guests : ℕ) → (board_crowd_limits t guests).code ≢ 11
  pub crowd_cover : (h : Head) (operators rides presence : List ℕ) (t : Bands) (guests : ℕ) (minimums marks : List ℕ) →
      (board_crowd_cover h operators rides presence t guests minimums marks).answer.code ≢ 11
  pub message : (b : Board) (m : Message) → (board_message b m).answer.code ≢ 11
  pub preview : (b : Board) (m : Message) (spare : Board) → (board_preview b m spare).answer.code ≢ 11
  pub messages : (b : Board) (ms : List Message) (answers : List ℕ) → (board_messages b ms answers).code ≢ 11
  pub answers : (b : Board) (ms : List Message) (answers : List ℕ) (i : ℕ) → (board_messages b ms answers).code ≡ 0 → i < length ms →
      get_or (board_messages b ms answers).answers i 0 ≢ 11
