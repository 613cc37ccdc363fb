-- Document 01, Layout, with document 02, 2.3 and 2.4: the parts of a board and their lengths, what is said of every part, and the clearance graphs
-- of a pair table and of a board.
use Rattle.std.specs.Prelude.{Bool, false, ◌&&◌, ◌||◌, not, List, [], ◌∷◌, ◌++◌, ℕ, ◌+◌, ◌*◌, eqb, length, get_or, take, drop}
use Rattle.model.specs.declared.Head.{Head}
use Rattle.model.specs.Count.{count, some}
use Rattle.model.specs.Graph.{Graph, counting, present}

-- Pair arrays, Stamps and Revisions: operators × rides places
abbrev pub pair_places : Head → ℕ
pair_places h = h.operators * h.rides

-- Marks, one row of the Index, and presence stamps, revisions and words: a place for each operator, then each ride
abbrev pub mark_places : Head → ℕ
mark_places h = h.operators + h.rides

-- Index: rides rows
abbrev pub index_places : Head → ℕ
index_places h = h.rides * (h.operators + h.rides)

-- the parts of a board, in the order in which they are lent: the two pair arrays, stamps, revisions, index; and of operators and rides their
-- stamps, revisions and words
pub data Part : Type 0 where
  Operators : Part
  Rides : Part
  Stamps : Part
  Revisions : Part
  Index : Part
  PresenceStamps : Part
  PresenceRevisions : Part
  Presence : Part

-- all of them
abbrev pub all_parts : List Part
all_parts = Operators ∷ Rides ∷ Stamps ∷ Revisions ∷ Index ∷ PresenceStamps ∷ PresenceRevisions ∷ Presence ∷ []

-- the places that each has
abbrev pub places : Head → Part → ℕ
places h Operators = pair_places h
places h Rides = pair_places h
places h Stamps = pair_places h
places h Revisions = pair_places h
places h Index = index_places h
places h PresenceStamps = mark_places h
places h PresenceRevisions = mark_places h
places h Presence = mark_places h

-- the words of each part
abbrev pub Parts : Type 0
Parts = Part → List ℕ

-- a board: head and parts
pub record Board : Type 0 where
  pub head : Head
  pub part : Parts

-- the parts as a call names them
abbrev pub parts : (operators rides stamps revisions index presence_stamps presence_revisions presence : List ℕ) → Parts
parts operators rides stamps revisions index presence_stamps presence_revisions presence Operators = operators
parts operators rides stamps revisions index presence_stamps presence_revisions presence Rides = rides
parts operators rides stamps revisions index presence_stamps presence_revisions presence Stamps = stamps
parts operators rides stamps revisions index presence_stamps presence_revisions presence Revisions = revisions
parts operators rides stamps revisions index presence_stamps presence_revisions presence Index = index
parts operators rides stamps revisions index presence_stamps presence_revisions presence PresenceStamps = presence_stamps
parts operators rides stamps revisions index presence_stamps presence_revisions presence PresenceRevisions = presence_revisions
parts operators rides stamps revisions index presence_stamps presence_revisions presence Presence = presence

-- the board of a head and parts
abbrev pub of_parts : Head → Parts → Board
of_parts h words = record { head = h; part = words }

-- the board of these lent parts
abbrev pub lent : Head → (operators rides stamps revisions index presence_stamps presence_revisions presence : List ℕ) → Board
lent h operators rides stamps revisions index presence_stamps presence_revisions presence =
    of_parts h (parts operators rides stamps revisions index presence_stamps presence_revisions presence)

-- one of these parts passes the test
abbrev pub some_part : (Part → Bool) → List Part → Bool
some_part test [] = false
some_part test (p ∷ ps) = test p || some_part test ps

-- what a call leaves in a lent part: the new words, and past their end the old ones
abbrev pub over : List ℕ → List ℕ → List ℕ
over new old = new ++ drop (length new) old

-- the same of every part of a board
abbrev pub onto : Board → Parts → Board
onto b old = record { head = b.head; part = λ p. over (b.part p) (old p) }

-- a board to the lengths under Layout
abbrev pub exact : Board → Board
exact b = of_parts b.head (λ p. take (places b.head p) (b.part p))

-- a board copied to spare memory: the board's words to the lengths under Layout, and past them the spare memory's own
unfoldable pub copied : Board → Parts → Board
copied b spare = onto (exact b) spare

-- the pair (u, v) stands at place i of the pair arrays
abbrev pub pair_at : List ℕ → List ℕ → ℕ → ℕ → ℕ → Bool
pair_at operators rides u v i = eqb (get_or operators i 0) u && eqb (get_or rides i 0) v

-- the pair (u, v) is listed: it stands at one of the first places, as many as pairs
unfoldable pub listed : ℕ → List ℕ → List ℕ → ℕ → ℕ → Bool
listed pairs operators rides u v = some pairs (pair_at operators rides u v)

-- the clearance graph of the head's sizes with these clearances
abbrev pub sized : Head → (ℕ → ℕ → Bool) → Graph
sized h cleared = record { operators = h.operators; rides = h.rides; cleared = cleared }

-- the clearance graph of a pair table
abbrev pub graph : Head → List ℕ → List ℕ → Graph
graph h operators rides = sized h (listed h.pairs operators rides)

-- the pairs of a pair table that count, by presence words
abbrev pub counting_graph : Head → List ℕ → List ℕ → List ℕ → Graph
counting_graph h operators rides presence = counting (graph h operators rides) (present presence)

-- all clearances of a board: its listed pairs
abbrev pub listed_graph : Board → Graph
listed_graph b = graph b.head (b.part Operators) (b.part Rides)

-- the clearance graph of a board: its listed pairs that count
abbrev pub board_graph : Board → Graph
board_graph b = counting_graph b.head (b.part Operators) (b.part Rides) (b.part Presence)

-- the number of words that differ, of the first k
unfoldable pub differing : ℕ → List ℕ → List ℕ → ℕ
differing k old new = count k (λ i. not (eqb (get_or old i 0) (get_or new i 0)))
