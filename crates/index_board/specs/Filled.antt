-- Inner contracts: a board whose index can be filled, and the board with its index filled.
use Rattle.std.specs.Prelude.{◌≤◌, length}
use Rattle.model.specs.Graph.{index_of}
use Rattle.model.specs.Layout.{Operators, Rides, Stamps, Revisions, Index, PresenceStamps, PresenceRevisions, Presence, Board, lent, mark_places, index_places, over, board_graph}
use Rattle.pairs.specs.Accepted.{AcceptedPairs}

-- the pair arrays are in order, and the presence words and the index have their places
pub record Fillable (b : Board) : Type 0 where
  pub pairs : AcceptedPairs b.head (b.part Operators) (b.part Rides)
  pub presence : mark_places b.head ≤ length (b.part Presence)
  pub index : index_places b.head ≤ length (b.part Index)

-- a board with the index of its pairs that count
abbrev pub filled_board : Board → Board
filled_board b =
    lent b.head (b.part Operators) (b.part Rides) (b.part Stamps) (b.part Revisions) (over (index_of (board_graph b)) (b.part Index))
    (b.part PresenceStamps) (b.part PresenceRevisions) (b.part Presence)
