-- Document 01, What the controller is told: one test for each of the numbers 1 to 10 and 12, and the numbers that each call checks.
-- Document 02, 2.1: 11 is never given; 2.3: 14; 2.4: 15, and 7, 8 and 10 of six kinds. 16 to 18 stand in `Crowd.antt`.
use Rattle.std.specs.Prelude.{Bool, true, false, ◌&&◌, ◌||◌, not, List, [], ◌∷◌, ◌++◌, ℕ, zero, suc, ltb, leb, eqb, length, get_or}
use Rattle.model.specs.declared.Head.{Head}
use Rattle.model.specs.declared.Message.{Message}
use Rattle.model.specs.Count.{some}
use Rattle.model.specs.Layout.{Operators, Rides, Stamps, Parts, Board, pair_places, mark_places, index_places, places, all_parts, some_part, of_parts}
use Rattle.model.specs.Contents.{Slot, Pair, Operator, Ride, later, slot, entry, contents, pair_place}

-- 1: operators over 200
abbrev pub refused_1 : Head → Bool
refused_1 h = ltb 200 h.operators

-- 2: rides over 60
abbrev pub refused_2 : Head → Bool
refused_2 h = ltb 60 h.rides

-- 3: a lent part is too short
abbrev pub refused_3 : ℕ → List ℕ → Bool
refused_3 needed part = ltb (length part) needed

-- 4: pairs over operators × rides
abbrev pub refused_4 : Head → Bool
refused_4 h = ltb (pair_places h) h.pairs

-- (u, v) stands before (u', v'): by operator and then ride
abbrev pub before : ℕ → ℕ → ℕ → ℕ → Bool
before u v u' v' = ltb u u' || (eqb u u' && ltb v v')

-- the pair at place i is not after the one before it
abbrev pub unordered : List ℕ → List ℕ → ℕ → Bool
unordered operators rides zero = false
unordered operators rides (suc i) =
    not (before (get_or operators i 0) (get_or rides i 0) (get_or operators (suc i) 0) (get_or rides (suc i) 0))

-- operator u or ride v is out of range
abbrev pub out_of_range : Head → ℕ → ℕ → Bool
out_of_range h u v = leb h.operators u || leb h.rides v

-- the pair at place i is out of range, or not after the one before it
unfoldable pub misplaced : Head → List ℕ → List ℕ → ℕ → Bool
misplaced h operators rides i = out_of_range h (get_or operators i 0) (get_or rides i 0) || unordered operators rides i

-- 5: a pair out of range, or not strictly ascending
unfoldable pub refused_5 : Head → List ℕ → List ℕ → Bool
refused_5 h operators rides = some h.pairs (misplaced h operators rides)

-- 6: message: a listed pair has stamp 0
unfoldable pub refused_6 : Board → Bool
refused_6 b =
    some b.head.pairs
    (λ i. eqb (get_or (b.part Stamps) (pair_place b.head (get_or (b.part Operators) i 0) (get_or (b.part Rides) i 0)) 0) 0)

-- 7: message: kind not 1 to 6
abbrev pub refused_7 : Message → Bool
refused_7 m = not (leb 1 m.kind && leb m.kind 6)

-- a slot is out of range
abbrev pub outside : Head → Slot → Bool
outside h (Pair u v) = out_of_range h u v
outside h (Operator u) = leb h.operators u
outside h (Ride v) = leb h.rides v

-- 8: message: operator or ride out of range, of the fields that the kind uses
abbrev pub refused_8 : Head → Message → Bool
refused_8 h m = outside h (slot m)

-- 9: message or starting stamp is 0
abbrev pub refused_9 : ℕ → Bool
refused_9 stamp = eqb stamp 0

-- 10: message not later than the last of its pair, operator or ride
unfoldable pub refused_10 : Board → Message → Bool
refused_10 b m = not (later (entry m) (contents b (slot m)))

-- 12: peel: a mark in use is not 0 or 1
unfoldable pub refused_12 : Head → List ℕ → Bool
refused_12 h marks = some (mark_places h) (λ x. ltb 1 (get_or marks x 0))

-- 14: message: revision over 255
abbrev pub refused_14 : Message → Bool
refused_14 m = ltb 255 m.revision

-- the field of a message that its slot doesn't use; a pair uses both
abbrev pub unused : Slot → Message → ℕ
unused (Pair u v) m = 0
unused (Operator u) m = m.ride
unused (Ride v) m = m.operator

-- 15: message: an unused field is not 0
abbrev pub refused_15 : Message → Bool
refused_15 m = not (eqb (unused (slot m) m) 0)

-- the first number that applies, in the order of the list; 0 if none does
unfoldable pub first_number : List (ℕ × Bool) → ℕ
first_number [] = 0
first_number (c ∷ cs) = elim c.1 [ true ↦ c.0 | false ↦ first_number cs ]

-- 3, of the parts of a board
unfoldable pub board_short : Board → Bool
board_short b = some_part (λ p. refused_3 (places b.head p) (b.part p)) all_parts

-- 1 to 5, of a pair table; too_short is the call's own 3
abbrev pub table_cases : Head → Bool → List ℕ → List ℕ → List (ℕ × Bool)
table_cases h too_short operators rides =
    (1, refused_1 h) ∷ (2, refused_2 h) ∷ (3, too_short) ∷ (4, refused_4 h) ∷ (5, refused_5 h operators rides) ∷ []

-- build: 1 to 5 and 9
unfoldable pub build_refusal : Board → ℕ → ℕ
build_refusal b start =
    first_number (table_cases b.head (board_short b) (b.part Operators) (b.part Rides) ++ (9, refused_9 start) ∷ [])

-- query: 1 to 3
unfoldable pub query_refusal : Head → List ℕ → List ℕ → List ℕ → ℕ
query_refusal h index presence marks =
    first_number (
    (1, refused_1 h) ∷ (2, refused_2 h) ∷
    (3, refused_3 (index_places h) index || refused_3 (mark_places h) presence || refused_3 (mark_places h) marks) ∷ []
    )

-- 1 to 6, of a board; too_short is the call's own 3
abbrev pub board_cases : Board → Bool → List (ℕ × Bool)
board_cases b too_short =
    table_cases b.head too_short (b.part Operators) (b.part Rides) ++ (6, refused_6 b) ∷ []

-- 7 to 9, 14 and 15, of a message: it is valid if none of them applies
abbrev pub valid_cases : Head → Message → List (ℕ × Bool)
valid_cases h m =
    (7, refused_7 m) ∷ (8, refused_8 h m) ∷ (9, refused_9 m.stamp) ∷ (14, refused_14 m) ∷ (15, refused_15 m) ∷ []

-- 7 to 9, 14, 15 and then 10, of a message on a board
abbrev pub message_cases : Board → Message → List (ℕ × Bool)
message_cases b m = valid_cases b.head m ++ (10, refused_10 b m) ∷ []

-- message: 1 to 9, 14, 15, 10
unfoldable pub message_refusal : Board → Message → ℕ
message_refusal b m = first_number (board_cases b (board_short b) ++ message_cases b m)

-- preview: as a message; a part of the spare memory that is too short for the board is 3
unfoldable pub preview_refusal : Board → Message → Parts → ℕ
preview_refusal b m spare =
    first_number (board_cases b (board_short b || board_short (of_parts b.head spare)) ++ message_cases b m)

-- message list: 1 to 6; an answer list shorter than the message list is 3
unfoldable pub list_refusal : Board → ℕ → List ℕ → ℕ
list_refusal b messages answers = first_number (board_cases b (board_short b || refused_3 messages answers))

-- a pair array, the presence words, the minimums or the marks are too short
abbrev pub peel_short : Head → List ℕ → List ℕ → List ℕ → List ℕ → List ℕ → Bool
peel_short h operators rides presence minimums marks =
    refused_3 (pair_places h) operators || refused_3 (pair_places h) rides || refused_3 (mark_places h) presence ||
    refused_3 h.rides minimums || refused_3 (mark_places h) marks

-- 1 to 5, of what is lent to a peel, and to the covers; document 02, 2.7: a short list of minimums is 3
abbrev pub peel_cases : Head → List ℕ → List ℕ → List ℕ → List ℕ → List ℕ → List (ℕ × Bool)
peel_cases h operators rides presence minimums marks =
    table_cases h (peel_short h operators rides presence minimums marks) operators rides

-- peel: 1 to 5 and 12
unfoldable pub peel_refusal : Head → List ℕ → List ℕ → List ℕ → List ℕ → List ℕ → ℕ
peel_refusal h operators rides presence minimums marks =
    first_number (peel_cases h operators rides presence minimums marks ++ (12, refused_12 h marks) ∷ [])

-- own cover: 1 to 5
unfoldable pub own_cover_refusal : Head → List ℕ → List ℕ → List ℕ → List ℕ → List ℕ → ℕ
own_cover_refusal h operators rides presence minimums marks = first_number (peel_cases h operators rides presence minimums marks)
