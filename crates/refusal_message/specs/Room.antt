-- Inner contracts: a board into which a message can be entered.
use Rattle.std.specs.Prelude.{Bool, true, false, ◌≤◌, T, length}
use Rattle.model.specs.Layout.{Part, Operators, Rides, Stamps, Revisions, Index, PresenceStamps, PresenceRevisions, Presence, Board, places}
use Rattle.pairs.specs.Accepted.{AcceptedPairs}

-- the parts that a message is entered into: all but the index
abbrev pub in_use : Part → Bool
in_use Operators = true
in_use Rides = true
in_use Stamps = true
in_use Revisions = true
in_use Index = false
in_use PresenceStamps = true
in_use PresenceRevisions = true
in_use Presence = true

-- a pair table that is accepted, and such parts that are long enough
pub record Room (b : Board) : Type 0 where
  pub pairs : AcceptedPairs b.head (b.part Operators) (b.part Rides)
  pub long : (p : Part) → T (in_use p) → places b.head p ≤ length (b.part p)
