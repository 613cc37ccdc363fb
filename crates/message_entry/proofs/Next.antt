-- A board to which 1 to 6 do not apply has room for a message, and so has the board once a message is entered.
use mathlib.Core.List.{List}
use Prim.Native.Nat.{ℕ, ◌≤◌}
use lib.Dec.{T}
use lib.ListN.{length}
use Rattle.model.specs.declared.Message.{Message}
use Rattle.model.specs.Layout.{Operators, Rides, Stamps, Revisions, PresenceStamps, PresenceRevisions, Presence, Board, places}
use Rattle.model.specs.Message.{board_after}
use Rattle.model.proofs.Parts.{by_part}
use Rattle.model.proofs.Refusal.{Accepted, Valid, none_valid}
use Rattle.model.proofs.Taken.{accepted_after}
use Rattle.pairs.specs.Accepted.{AcceptedPairs}
use Rattle.pairs.proofs.Table.{accepted_pairs}
use Rattle.refusal_message.specs.Room.{in_use, Room}
use Rattle.message_entry.specs.Enter.{Enters, with_index, entered}

module _ (b : Board) where
  pub room_of : Accepted b → Room b
  room_of a = record { pairs = accepted_pairs b a.table; long = λ p n. a.table.long p }

  -- whatever the index
  pub enters_any : (index : List ℕ) (m : Message) → Enters b m → Enters (with_index b index) m
  enters_any index m e =
      record {
        room = record {
          pairs = e.room.pairs;
          long =
              by_part (λ p. T (in_use p) → places b.head p ≤ length ((with_index b index).part p)) (e.room.long Operators) (e.room.long Rides) (e.room.long Stamps) (e.room.long Revisions) (λ t. absurd t) (e.room.long PresenceStamps) (e.room.long PresenceRevisions) (e.room.long Presence);
        };
        valid = e.valid;
      }

  pub enters_of : (m : Message) → Accepted b → Valid b.head m → Enters b m
  enters_of m a v = record { room = room_of a; valid = none_valid b.head m v }

-- the pair arrays of the board once a message is entered
pub entered_pairs : (b : Board) (m : Message) → Accepted b → Valid b.head m → AcceptedPairs (entered b m).head ((entered b m).part Operators) ((entered b m).part Rides)
unfolding entered
entered_pairs b m a v = accepted_pairs (board_after b m) (accepted_after b m a v).table
