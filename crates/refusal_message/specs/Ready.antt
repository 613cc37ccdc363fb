-- Inner contracts: a board of which a message's own numbers can be told.
use Rattle.std.specs.Prelude.{◌≤◌, length}
use Rattle.model.specs.Layout.{Operators, Rides, Stamps, Revisions, PresenceStamps, PresenceRevisions, Presence, Board, pair_places, mark_places}
use Rattle.pairs.specs.Accepted.{AcceptedPairs}

-- a pair table that is accepted, and parts that are long enough
pub record Ready (b : Board) : Type 0 where
  pub pairs : AcceptedPairs b.head (b.part Operators) (b.part Rides)
  pub stamps_long : pair_places b.head ≤ length (b.part Stamps)
  pub revisions_long : pair_places b.head ≤ length (b.part Revisions)
  pub presence_stamps_long : mark_places b.head ≤ length (b.part PresenceStamps)
  pub presence_revisions_long : mark_places b.head ≤ length (b.part PresenceRevisions)
  pub presence_long : mark_places b.head ≤ length (b.part Presence)
