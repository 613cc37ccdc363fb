-- What a board says, and the words that say it. A slot is what a message speaks of; a board has the last entry of each slot.
-- Document 02, 2.3 and 2.4: which of two messages for one slot is later; operators and rides have entries too.
use Rattle.std.specs.Prelude.{Bool, true, false, ◌&&◌, ◌||◌, not, List, ◌++◌, map, ℕ, ◌+◌, ◌-◌, ◌*◌, ◌/◌, ◌%◌, ltb, leb, eqb, length, get_or, replicate}
use Rattle.model.specs.declared.Head.{Head}
use Rattle.model.specs.declared.Message.{Message}
use Rattle.model.specs.Count.{bit, values, rows, passing}
use Rattle.model.specs.Graph.{Graph, index_of}
use Rattle.model.specs.Layout.{Operators, Rides, Stamps, Revisions, Index, PresenceStamps, PresenceRevisions, Presence, Parts, Board}
use Rattle.model.specs.Layout.{pair_places, mark_places, sized, listed_graph}

-- what a message speaks of: a pair, an operator or a ride
pub data Slot : Type 0 where
  Pair : ℕ → ℕ → Slot
  Operator : ℕ → Slot
  Ride : ℕ → Slot

-- both are the same slot
abbrev pub same_slot : Slot → Slot → Bool
same_slot (Pair u v) (Pair a d) = eqb u a && eqb v d
same_slot (Pair u v) (Operator a) = false
same_slot (Pair u v) (Ride d) = false
same_slot (Operator u) (Pair a d) = false
same_slot (Operator u) (Operator a) = eqb u a
same_slot (Operator u) (Ride d) = false
same_slot (Ride v) (Pair a d) = false
same_slot (Ride v) (Operator a) = false
same_slot (Ride v) (Ride d) = eqb v d

-- what a slot has: a stamp, a revision, and a word, 1 if the pair is listed, the operator on, the ride in
pub record Entry : Type 0 where
  pub stamp : ℕ
  pub revision : ℕ
  pub word : ℕ

-- it gives: a grant, on, in; any word but 1 takes away: a withdrawal, off, out
abbrev pub gives : Entry → Bool
gives e = eqb e.word 1

-- later: larger stamp; at equal stamps larger revision; at both equal, a withdrawal over a grant, off over on, out over in
abbrev pub later : Entry → Entry → Bool
later e f =
    ltb f.stamp e.stamp ||
    (eqb e.stamp f.stamp && (ltb f.revision e.revision || (eqb e.revision f.revision && (not (gives e) && gives f))))

-- the slot of a message: kinds 1 and 2 speak of a pair, 3 and 4 of an operator, 5 and 6 of a ride
unfoldable pub slot : Message → Slot
slot m =
    elim (leb m.kind 2) [
      | true ↦ Pair m.operator m.ride
      | false ↦ elim (leb m.kind 4) [ true ↦ Operator m.operator | false ↦ Ride m.ride ]
    ]

-- the kinds that give: 1 grant, 3 operator on, 5 ride in
abbrev pub giving : ℕ → Bool
giving kind = eqb kind 1 || (eqb kind 3 || eqb kind 5)

-- the entry of a message: its stamp, its revision, and the word 1 or 0
abbrev pub entry : Message → Entry
entry m = record { stamp = m.stamp; revision = m.revision; word = bit (giving m.kind) }

-- what a board says: the last entry of each slot
abbrev pub Contents : Type 0
Contents = Slot → Entry

-- a slot never heard of: stamp and revision 0; a pair is not listed, an operator is on, a ride is in
abbrev pub unheard : Slot → Entry
unheard (Pair u v) = record { stamp = 0; revision = 0; word = 0 }
unheard (Operator u) = record { stamp = 0; revision = 0; word = 1 }
unheard (Ride v) = record { stamp = 0; revision = 0; word = 1 }

-- the contents with another entry at a slot
abbrev pub put : Contents → Slot → Entry → Contents
put s t e x = elim (same_slot x t) [ true ↦ e | false ↦ s x ]

-- the clearances that contents give
abbrev pub given : Contents → ℕ → ℕ → Bool
given s u v = gives (s (Pair u v))

-- those of them that count: the operator is on and the ride is in
abbrev pub counted : Contents → ℕ → ℕ → Bool
counted s u v = given s u v && (gives (s (Operator u)) && gives (s (Ride v)))

-- the place of a pair's stamp, and of its revision
abbrev pub pair_place : Head → ℕ → ℕ → ℕ
pair_place h u v = u * h.rides + v

-- the place of ride v, as marks lie; operator u has place u
abbrev pub ride_place : Head → ℕ → ℕ
ride_place h v = h.operators + v

-- what a board has for the operator or ride at this place
abbrev pub entry_at : Board → ℕ → Entry
entry_at b x =
    record {
      stamp = get_or (b.part PresenceStamps) x 0;
      revision = get_or (b.part PresenceRevisions) x 0;
      word = get_or (b.part Presence) x 0;
    }

-- the contents of a board: a pair's word is 1 exactly if the pair is listed; its stamp and its revision stand at its place
abbrev pub contents : Board → Contents
contents b (Pair u v) =
    record {
      stamp = get_or (b.part Stamps) (pair_place b.head u v) 0;
      revision = get_or (b.part Revisions) (pair_place b.head u v) 0;
      word = bit ((listed_graph b).cleared u v);
    }
contents b (Operator u) = entry_at b u
contents b (Ride v) = entry_at b (ride_place b.head v)

-- the cleared pairs in ascending order, each as its number operator × rides + ride
unfoldable pub pair_numbers : Graph → List ℕ
pair_numbers g = passing (g.operators * g.rides) (λ k. g.cleared (k / g.rides) (k % g.rides))

-- a pair array: its words, then zeros to its end
abbrev pub padded : ℕ → List ℕ → List ℕ
padded places words = words ++ replicate (places - length words) 0

-- the operator or ride at this place
abbrev pub node_slot : Head → ℕ → Slot
node_slot h x = elim (ltb x h.operators) [ true ↦ Operator x | false ↦ Ride (x - h.operators) ]

-- the words of each part that say these contents: pairs in ascending order then zeros, stamps, revisions, levels of the pairs that count by the
-- definition; stamps, revisions and words of operators and rides
unfoldable pub words : Head → Contents → Parts
words h s Operators = padded (pair_places h) (map (λ k. k / h.rides) (pair_numbers (sized h (given s))))
words h s Rides = padded (pair_places h) (map (λ k. k % h.rides) (pair_numbers (sized h (given s))))
words h s Stamps = rows h.operators h.rides (λ u v. (s (Pair u v)).stamp)
words h s Revisions = rows h.operators h.rides (λ u v. (s (Pair u v)).revision)
words h s Index = index_of (sized h (counted s))
words h s PresenceStamps = values (mark_places h) (λ x. (s (node_slot h x)).stamp)
words h s PresenceRevisions = values (mark_places h) (λ x. (s (node_slot h x)).revision)
words h s Presence = values (mark_places h) (λ x. (s (node_slot h x)).word)

-- the board of the head's sizes that says these contents, to the lengths under Layout
abbrev pub board_of : Head → Contents → Board
board_of h s =
    record {
      head = record { operators = h.operators; rides = h.rides; pairs = length (pair_numbers (sized h (given s))) };
      part = words h s;
    }
