-- Inner contracts: a message entered, with no word of the index read or written.
use Rattle.std.specs.Prelude.{◌≡◌, List, ℕ, zero, suc}
use Rattle.model.specs.declared.Head.{Head}
use Rattle.model.specs.declared.Message.{Message}
use Rattle.model.specs.Layout.{Operators, Rides, Stamps, Revisions, Index, PresenceStamps, PresenceRevisions, Presence, Board, lent}
use Rattle.model.specs.Refusal.{first_number, valid_cases, message_cases}
use Rattle.model.specs.Message.{board_after}
use Rattle.refusal_message.specs.Room.{Room}

-- a board with room for it, and a valid message
pub record Enters (b : Board) (m : Message) : Type 0 where
  pub room : Room b
  pub valid : first_number (valid_cases b.head m) ≡ 0

-- the head with this number of pairs
abbrev pub with_pairs : Head → ℕ → Head
with_pairs h pairs = record { operators = h.operators; rides = h.rides; pairs = pairs }

-- a board with other words in its index
abbrev pub with_index : Board → List ℕ → Board
with_index b index =
    lent b.head (b.part Operators) (b.part Rides) (b.part Stamps) (b.part Revisions) index (b.part PresenceStamps)
    (b.part PresenceRevisions) (b.part Presence)

-- the board once a message is entered, its index as it was
unfoldable pub entered : Board → Message → Board
entered b m = with_index (board_after b m) (b.part Index)

-- the first of 7 to 9, 14, 15 and 10 that applies to a message, 0 if none does
abbrev pub number_of : Board → Message → ℕ
number_of b m = first_number (message_cases b m)

-- the board once a message is entered, unless one of them applies
abbrev pub entered_valid : Board → Message → Board
entered_valid b m = elim (number_of b m) [ zero ↦ entered b m | suc k ↦ b ]
