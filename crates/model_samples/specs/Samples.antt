-- Document 01, Samples on that board: those with a star, one table. Each row has what the definitions give, and what document 01 says.
-- The last row, "Built at stamp 5", has no star. Further tables have limits of 0, previews, revisions and presence: document 02, 2.1 to 2.4;
-- lists of limits; limits by crowd: 2.6; minimums: 2.7; and both: 2.8.
use Rattle.std.specs.Prelude.{◌≡◌, List, [], ◌∷◌, ◌++◌, ℕ, ◌-◌, ◌*◌, length, get_or, take, drop, replicate}
use Rattle.model.specs.declared.Message.{Message}
use Rattle.model.specs.declared.Band.{Band}
use Rattle.model.specs.declared.Bands.{Bands}
use Rattle.model.specs.Graph.{Graph, limits, removals, cover_under, cover, row}
use Rattle.model.specs.Layout.{Operators, Rides, Stamps, Revisions, Index, PresenceStamps, PresenceRevisions, Presence, Board, mark_places, lent, listed_graph}
use Rattle.model.specs.Calls.{QueryOutcome, PeelOutcome, board_build, board_query, board_peel, board_own_cover}
use Rattle.model.specs.Crowd.{board_crowd_limits, board_crowd_cover}
use Rattle.model.specs.Message.{MessageOutcome, board_message, board_preview}

-- document 01's board as it is lent to a build: words of no meaning stand behind the pairs, in the stamps, the revisions and the index
abbrev table : Board
table =
    lent
    (record { operators = 4; rides = 3; pairs = 7 })
    (0 ∷ 0 ∷ 1 ∷ 1 ∷ 2 ∷ 2 ∷ 3 ∷ replicate 5 9)
    (0 ∷ 1 ∷ 0 ∷ 1 ∷ 1 ∷ 2 ∷ 2 ∷ replicate 5 9)
    (replicate 12 9)
    (replicate 12 9)
    (replicate 21 9)
    (replicate 7 9)
    (replicate 7 9)
    (replicate 7 9)

-- its clearances
abbrev board : Graph
board = listed_graph table

-- its peel (2,2), from marks and with a number of allowed steps
abbrev peel_2_2 : List ℕ → ℕ → PeelOutcome
peel_2_2 marks allowed =
    board_peel table.head (table.part Operators) (table.part Rides) (replicate 7 1) (replicate 3 0) marks 2 2 allowed

-- a peel's number, settled and steps
abbrev answer : PeelOutcome → List ℕ
answer o = o.answer.code ∷ o.answer.settled ∷ o.answer.steps ∷ []

-- the board built at a starting stamp
abbrev built_at : ℕ → Board
built_at start = (board_build table start).board

-- what a message of revision 0 gives on a board
abbrev sent : Board → ℕ → ℕ → ℕ → ℕ → MessageOutcome
sent b kind operator ride stamp =
    board_message b (record { kind = kind; operator = operator; ride = ride; revision = 0; stamp = stamp })

-- what the grant (3,1) gives on the board built at stamp 1
abbrev grant_3_1 : MessageOutcome
grant_3_1 = sent (built_at 1) 1 3 1 2

-- row α of a board's index
abbrev index_row : Board → ℕ → List ℕ
index_row b α = take 7 (drop ((α - 1) * 7) (b.part Index))

-- how far operator 3 moves up by the grant in a row
abbrev move_3 : ℕ → ℕ
move_3 α = get_or (index_row grant_3_1.board α) 3 0 - get_or (index_row (built_at 1) α) 3 0

-- the samples, in document 01's order
unfoldable pub samples : List (List ℕ × List ℕ)
samples =
    (row board 1, 3 ∷ 3 ∷ 3 ∷ 2 ∷ 2 ∷ 3 ∷ 2 ∷ []) ∷
    (row board 2, 2 ∷ 2 ∷ 1 ∷ 0 ∷ 2 ∷ 2 ∷ 1 ∷ []) ∷
    (row board 3, 0 ∷ 0 ∷ 0 ∷ 0 ∷ 0 ∷ 0 ∷ 0 ∷ []) ∷
    (cover board 1 3, 1 ∷ 1 ∷ 1 ∷ 0 ∷ 0 ∷ 1 ∷ 0 ∷ []) ∷
    (cover board 1 4, 0 ∷ 0 ∷ 0 ∷ 0 ∷ 0 ∷ 0 ∷ 0 ∷ []) ∷
    (removals board (limits 4 2 2) 7 (replicate 7 1), 3 ∷ 6 ∷ 2 ∷ []) ∷
    (answer (peel_2_2 (replicate 7 1) 2), 0 ∷ 0 ∷ 2 ∷ []) ∷
    (answer (peel_2_2 (replicate 7 1) 3), 0 ∷ 1 ∷ 3 ∷ []) ∷
    (answer (peel_2_2 (cover board 2 2) 0), 0 ∷ 1 ∷ 0 ∷ []) ∷
    (index_row grant_3_1.board 1, 4 ∷ 4 ∷ 4 ∷ 4 ∷ 2 ∷ 4 ∷ 2 ∷ []) ∷
    (index_row grant_3_1.board 2, 2 ∷ 2 ∷ 2 ∷ 2 ∷ 2 ∷ 2 ∷ 2 ∷ []) ∷
    (grant_3_1.answer.code ∷ grant_3_1.answer.differ ∷ grant_3_1.board.head.pairs ∷ [], 0 ∷ 8 ∷ 8 ∷ []) ∷
    (move_3 1 ∷ move_3 2 ∷ [], 2 ∷ 2 ∷ []) ∷ (
      (sent (built_at 5) 1 0 0 5).answer.code ∷ (sent (built_at 5) 2 0 0 5).answer.code ∷
          (sent (sent (built_at 5) 2 0 0 5).board 1 0 0 6).answer.code ∷ [],
      10 ∷ 0 ∷ 0 ∷ [],
    ) ∷
    []

-- what a query or a cover gives: its number, its counts, and the marks
abbrev marked_and_counted : QueryOutcome → List ℕ
marked_and_counted o = o.answer.code ∷ o.answer.operators ∷ o.answer.rides ∷ o.marks

-- what a query gives on a board just built
abbrev asked : Board → ℕ → ℕ → List ℕ
asked b α β =
    let left = (board_build b 1).board in
    marked_and_counted (board_query b.head (left.part Index) (left.part Presence) α β (replicate (mark_places b.head) 9))

-- the marks that a peel from all ones leaves
abbrev left : Board → ℕ → ℕ → List ℕ
left b α β =
    let ones : List ℕ = replicate (mark_places b.head) 1 in
    (board_peel b.head (b.part Operators) (b.part Rides) ones (replicate b.head.rides 0) ones α β (mark_places b.head)).marks

-- a row for limits (α, β): what a query and a peel give, and the counts and marks that both should have
abbrev limits_row : Board → ℕ → ℕ → ℕ → ℕ → List ℕ → List ℕ × List ℕ
limits_row b α β operators rides marks = (asked b α β ++ left b α β, (0 ∷ operators ∷ rides ∷ marks) ++ marks)

-- boards of two operators and no ride, and of no operator and two rides
abbrev no_rides : Board
no_rides = lent (record { operators = 2; rides = 0; pairs = 0 }) [] [] [] [] [] (9 ∷ 9 ∷ []) (9 ∷ 9 ∷ []) (9 ∷ 9 ∷ [])

abbrev no_operators : Board
no_operators =
    lent (record { operators = 0; rides = 2; pairs = 0 }) [] [] [] [] (replicate 4 9) (9 ∷ 9 ∷ []) (9 ∷ 9 ∷ []) (9 ∷ 9 ∷ [])

-- limits of 0, by hand from rows 1 and 2 above:
-- (0,2) all operators, and the rides of level 2 in row 1: all. (2,0) all rides, and the operators of level 1 in row 2: 0, 1, 2. (0,0) everyone.
-- (0,3) all operators, and the rides of level 3 in row 1: ride 1. (4,0), (9,0) the rides alone: there is no such row.
-- No rides: (0,5) all operators; (1,0) nobody. No operators: (3,0) all rides; (0,1) nobody, for a ride has no operator.
unfoldable pub zero_samples : List (List ℕ × List ℕ)
zero_samples =
    limits_row table 0 2 4 3 (1 ∷ 1 ∷ 1 ∷ 1 ∷ 1 ∷ 1 ∷ 1 ∷ []) ∷
    limits_row table 2 0 3 3 (1 ∷ 1 ∷ 1 ∷ 0 ∷ 1 ∷ 1 ∷ 1 ∷ []) ∷
    limits_row table 0 0 4 3 (1 ∷ 1 ∷ 1 ∷ 1 ∷ 1 ∷ 1 ∷ 1 ∷ []) ∷
    limits_row table 0 3 4 1 (1 ∷ 1 ∷ 1 ∷ 1 ∷ 0 ∷ 1 ∷ 0 ∷ []) ∷
    limits_row table 4 0 0 3 (0 ∷ 0 ∷ 0 ∷ 0 ∷ 1 ∷ 1 ∷ 1 ∷ []) ∷
    limits_row table 9 0 0 3 (0 ∷ 0 ∷ 0 ∷ 0 ∷ 1 ∷ 1 ∷ 1 ∷ []) ∷
    limits_row no_rides 0 5 2 0 (1 ∷ 1 ∷ []) ∷
    limits_row no_rides 1 0 0 0 (0 ∷ 0 ∷ []) ∷
    limits_row no_operators 3 0 0 2 (1 ∷ 1 ∷ []) ∷
    limits_row no_operators 0 1 0 0 (0 ∷ 0 ∷ []) ∷
    []

-- a spare board: words of no meaning in its head and parts, whose last place is past the lengths under Layout; its index has so many places
abbrev spare : ℕ → Board
spare places =
    lent
    (record { operators = 9; rides = 9; pairs = 9 })
    (replicate 13 9)
    (replicate 13 9)
    (replicate 13 9)
    (replicate 13 9)
    (replicate places 9)
    (replicate 8 9)
    (replicate 8 9)
    (replicate 8 9)

-- what the preview of a message for the pair (0,0), of revision 3, gives on the board built at stamp 1
abbrev previewed : ℕ → ℕ → MessageOutcome
previewed kind places =
    board_preview (built_at 1) (record { kind = kind; operator = 0; ride = 0; revision = 3; stamp = 2 }) (spare places)

-- a preview's number, its count, and the spare head
abbrev numbers : MessageOutcome → List ℕ
numbers o =
    o.answer.code ∷ o.answer.differ ∷ o.board.head.operators ∷ o.board.head.rides ∷ o.board.head.pairs ∷ []

-- previews, by hand. Without (0,0) ride 0 has operator 1 alone: in row 1 it falls from 2 to 1. In row 2 operator 0 has one ride and is out;
-- operators 1 and 2 and all rides are in cover (2,1), and in (2,2) nobody. So 1 + 4 words differ.
-- A message of kind 7 gets 7, and a spare index one place short 3: nothing of the spare board changes.
unfoldable pub preview_samples : List (List ℕ × List ℕ)
preview_samples =
    (numbers (previewed 2 22), 0 ∷ 5 ∷ 4 ∷ 3 ∷ 6 ∷ []) ∷
    ((previewed 2 22).board.part Operators, 0 ∷ 1 ∷ 1 ∷ 2 ∷ 2 ∷ 3 ∷ 0 ∷ 0 ∷ 0 ∷ 0 ∷ 0 ∷ 0 ∷ 9 ∷ []) ∷
    ((previewed 2 22).board.part Rides, 1 ∷ 0 ∷ 1 ∷ 1 ∷ 2 ∷ 2 ∷ 0 ∷ 0 ∷ 0 ∷ 0 ∷ 0 ∷ 0 ∷ 9 ∷ []) ∷
    ((previewed 2 22).board.part Stamps, 2 ∷ 1 ∷ 0 ∷ 1 ∷ 1 ∷ 0 ∷ 0 ∷ 1 ∷ 1 ∷ 0 ∷ 0 ∷ 1 ∷ 9 ∷ []) ∷
    ((previewed 2 22).board.part Revisions, 3 ∷ 0 ∷ 0 ∷ 0 ∷ 0 ∷ 0 ∷ 0 ∷ 0 ∷ 0 ∷ 0 ∷ 0 ∷ 0 ∷ 9 ∷ []) ∷
    (index_row (previewed 2 22).board 1, 3 ∷ 3 ∷ 3 ∷ 2 ∷ 1 ∷ 3 ∷ 2 ∷ []) ∷
    (index_row (previewed 2 22).board 2, 0 ∷ 1 ∷ 1 ∷ 0 ∷ 1 ∷ 1 ∷ 1 ∷ []) ∷
    (drop 14 ((previewed 2 22).board.part Index), 0 ∷ 0 ∷ 0 ∷ 0 ∷ 0 ∷ 0 ∷ 0 ∷ 9 ∷ []) ∷
    (numbers (previewed 7 22), 7 ∷ 0 ∷ 9 ∷ 9 ∷ 9 ∷ []) ∷
    ((previewed 7 22).board.part Stamps, replicate 13 9) ∷
    (numbers (previewed 2 20), 3 ∷ 0 ∷ 9 ∷ 9 ∷ 9 ∷ []) ∷
    (numbers (previewed 7 20), 3 ∷ 0 ∷ 9 ∷ 9 ∷ 9 ∷ []) ∷
    []

-- a message for the pair (0,0)
abbrev for_0_0 : ℕ → ℕ → ℕ → Message
for_0_0 kind revision stamp =
    record { kind = kind; operator = 0; ride = 0; revision = revision; stamp = stamp }

-- messages sent to a board one after another: their numbers, and then the stamp and the revision of the pair (0,0), and the number of pairs
abbrev told : Board → List Message → List ℕ
told b [] = get_or (b.part Stamps) 0 0 ∷ get_or (b.part Revisions) 0 0 ∷ b.head.pairs ∷ []
told b (m ∷ ms) = (board_message b m).answer.code ∷ told (board_message b m).board ms

-- the board built at stamp 5, with revision 300 stored for every pair
abbrev stored_300 : Board
stored_300 =
    let b = built_at 5 in
    lent b.head (b.part Operators) (b.part Rides) (b.part Stamps) (replicate 12 300) (b.part Index) (b.part PresenceStamps)
    (b.part PresenceRevisions) (b.part Presence)

-- revisions, by hand, on the board built at stamp 5. It has 7 pairs, (0,0) among them, whose last is a grant of stamp 5 and revision 0.
-- A build writes 0. Two corrections of stamp 6, a withdrawal of revision 1 and a grant of revision 2, in both orders: the grant stays.
-- A grant and a withdrawal of stamp 6 and revision 1: the withdrawal is taken after the grant, and the grant is not taken after it.
-- Revision 255 is taken, 256 gets 14. At the build's own stamp a grant of revision 0 gets 10, a withdrawal is taken, and so is a grant of
-- revision 1. The stamp decides first: revision 0 of stamp 6 after revision 255 of stamp 5, and revision 255 of stamp 4 gets 10.
-- Revision 256 with kind 7 gets 7, with operator 4 gets 8, with stamp 0 gets 9, and with stamp 4, where 10 applies too, 14.
-- Where 300 is stored, revision 255 of stamp 5 gets 10, and revision 0 of stamp 6 is taken.
unfoldable pub revision_samples : List (List ℕ × List ℕ)
revision_samples =
    ((built_at 5).part Revisions, replicate 12 0) ∷
    (told (built_at 5) (for_0_0 2 1 6 ∷ for_0_0 1 2 6 ∷ []), 0 ∷ 0 ∷ 6 ∷ 2 ∷ 7 ∷ []) ∷
    (told (built_at 5) (for_0_0 1 2 6 ∷ for_0_0 2 1 6 ∷ []), 0 ∷ 10 ∷ 6 ∷ 2 ∷ 7 ∷ []) ∷
    (told (built_at 5) (for_0_0 1 1 6 ∷ for_0_0 2 1 6 ∷ []), 0 ∷ 0 ∷ 6 ∷ 1 ∷ 6 ∷ []) ∷
    (told (built_at 5) (for_0_0 2 1 6 ∷ for_0_0 1 1 6 ∷ []), 0 ∷ 10 ∷ 6 ∷ 1 ∷ 6 ∷ []) ∷
    (told (built_at 5) (for_0_0 2 255 6 ∷ for_0_0 1 256 6 ∷ []), 0 ∷ 14 ∷ 6 ∷ 255 ∷ 6 ∷ []) ∷
    (told (built_at 5) (for_0_0 1 0 5 ∷ for_0_0 2 0 5 ∷ []), 10 ∷ 0 ∷ 5 ∷ 0 ∷ 6 ∷ []) ∷
    (told (built_at 5) (for_0_0 1 1 5 ∷ []), 0 ∷ 5 ∷ 1 ∷ 7 ∷ []) ∷
    (told (built_at 5) (for_0_0 1 255 5 ∷ for_0_0 2 0 6 ∷ []), 0 ∷ 0 ∷ 6 ∷ 0 ∷ 6 ∷ []) ∷
    (told (built_at 5) (for_0_0 1 255 4 ∷ []), 10 ∷ 5 ∷ 0 ∷ 7 ∷ []) ∷
    (told (built_at 5) (for_0_0 7 256 6 ∷ []), 7 ∷ 5 ∷ 0 ∷ 7 ∷ []) ∷ (
      told (built_at 5) (record { kind = 1; operator = 4; ride = 0; revision = 256; stamp = 6 } ∷ []),
      8 ∷ 5 ∷ 0 ∷ 7 ∷ [],
    ) ∷
    (told (built_at 5) (for_0_0 1 256 0 ∷ []), 9 ∷ 5 ∷ 0 ∷ 7 ∷ []) ∷
    (told (built_at 5) (for_0_0 1 256 4 ∷ []), 14 ∷ 5 ∷ 0 ∷ 7 ∷ []) ∷
    (told stored_300 (for_0_0 2 255 5 ∷ for_0_0 2 0 6 ∷ []), 10 ∷ 0 ∷ 6 ∷ 0 ∷ 6 ∷ []) ∷
    []

-- a message of revision 0
abbrev of_kind : ℕ → ℕ → ℕ → ℕ → Message
of_kind kind operator ride stamp =
    record { kind = kind; operator = operator; ride = ride; revision = 0; stamp = stamp }

-- messages sent to a board one after another: the number and the count of each
abbrev answers : Board → List Message → List ℕ
answers b [] = []
answers b (m ∷ ms) =
    let o = board_message b m in
    o.answer.code ∷ o.answer.differ ∷ answers o.board ms

-- and the board that they leave
abbrev left_by : Board → List Message → Board
left_by b [] = b
left_by b (m ∷ ms) = left_by (board_message b m).board ms

-- a board with these presence stamps and words
abbrev with_presence : Board → List ℕ → List ℕ → Board
with_presence b stamps words =
    lent b.head (b.part Operators) (b.part Rides) (b.part Stamps) (b.part Revisions) (b.part Index) stamps (b.part PresenceRevisions) words

-- what a query gives on a board as it stands
abbrev asked_as_is : Board → ℕ → ℕ → List ℕ
asked_as_is b α β = marked_and_counted (board_query b.head (b.part Index) (b.part Presence) α β (replicate 7 9))

-- what a peel from all ones gives on a board as it stands: its number, settled, steps, and the marks
abbrev peeled_as_is : Board → ℕ → ℕ → ℕ → List ℕ
peeled_as_is b α β allowed =
    let o = board_peel b.head (b.part Operators) (b.part Rides) (b.part Presence) (replicate 3 0) (replicate 7 1) α β allowed in
    o.answer.code ∷ o.answer.settled ∷ o.answer.steps ∷ o.marks

-- on the board built at stamp 5: operator 2 off, ride 1 out, both with stamp 6; and back with stamp 7
abbrev off_2 : Message
off_2 = of_kind 4 2 0 6

abbrev out_1 : Message
out_1 = of_kind 6 0 1 6

abbrev on_2 : Message
on_2 = of_kind 3 2 0 7

abbrev in_1 : Message
in_1 = of_kind 5 0 1 7

-- the board built at stamp 5, with stamp 6 and a word of 7 for operator 2
abbrev stored_7 : Board
stored_7 = with_presence (built_at 5) (0 ∷ 0 ∷ 6 ∷ 0 ∷ 0 ∷ 0 ∷ 0 ∷ []) (1 ∷ 1 ∷ 7 ∷ 1 ∷ 1 ∷ 1 ∷ 1 ∷ [])

-- presence, by hand, on the board built at stamp 5: operators 0 and 1 have rides 0 and 1, operator 2 rides 1 and 2, operator 3 ride 2.
-- A build writes 1 for everybody, with stamps and revisions of 0.
-- Without operator 2 rides 0 and 1 have operators 0 and 1, ride 2 has operator 3: row 1 is 2 2 0 1, then 2 2 1, and row 2 is 2 2 0 0, then 2 2 0:
-- 6 + 2 words differ. Without ride 1 operators 0 and 1 have ride 0, 2 and 3 ride 2: row 1 is 2 2 2 2, then 2 0 2, and row 2 all 0: 4 + 6 words.
-- Without both row 1 is 2 2 0 1, then 2 0 1: from operator 2 off 1 + 4 words differ. Operator 2 comes back: 3 words; ride 1 too: 10, as it was.
-- An on and an off of stamp 6: the off is taken after the on, and the on is not taken after it.
-- A word of 7 is off: at its own stamp an off gets 10, and so does an on; an off of stamp 7 writes 0. When ride 1 goes out it stays 7, and
-- the index is that without both: from all pairs 6 + 6 words differ.
-- Operator 2 is off and is granted ride 0: there are 8 pairs and no word differs. It comes on: rides 0 and 1 have three operators, ride 2 two.
-- Row 1 is 3 3 3 2, then 3 3 2; row 2 is 3 3 3 0, then 3 3 1; row 3 is 0 0 1 0, then 1 1 1: 7 + 6 + 4 words differ.
-- Operator 2 is off: query (0,0) marks all others. On the index of all pairs query (1,3) leaves out operator 2.
-- Operator 2 is off and ride 1 out: a peel (0,0) from all ones drops both, one a step; with 1 step ride 1 stays, with none both do: unsettled.
-- A peel (2,2) with operator 2 off drops operator 2, operator 3, ride 2.
-- Kind 0 and kind 7 get 7. An operator's message with operator 4 gets 8, with ride 9 gets 15; a ride's with ride 3 gets 8, with operator 9 gets 15.
-- With ride 1 an operator's gets 9 at stamp 0, 14 at revision 256, and 15 where 10 applies too.
unfoldable pub presence_samples : List (List ℕ × List ℕ)
presence_samples =
    ((built_at 5).part PresenceStamps ++ (built_at 5).part PresenceRevisions ++ (built_at 5).part Presence, replicate 14 0 ++ replicate 7 1) ∷
    (answers (built_at 5) (off_2 ∷ out_1 ∷ on_2 ∷ in_1 ∷ []), 0 ∷ 8 ∷ 0 ∷ 5 ∷ 0 ∷ 3 ∷ 0 ∷ 10 ∷ []) ∷
    (answers (built_at 5) (out_1 ∷ []), 0 ∷ 10 ∷ []) ∷
    (index_row (left_by (built_at 5) (off_2 ∷ [])) 1, 2 ∷ 2 ∷ 0 ∷ 1 ∷ 2 ∷ 2 ∷ 1 ∷ []) ∷
    (index_row (left_by (built_at 5) (off_2 ∷ [])) 2, 2 ∷ 2 ∷ 0 ∷ 0 ∷ 2 ∷ 2 ∷ 0 ∷ []) ∷
    (index_row (left_by (built_at 5) (out_1 ∷ [])) 1, 2 ∷ 2 ∷ 2 ∷ 2 ∷ 2 ∷ 0 ∷ 2 ∷ []) ∷
    (index_row (left_by (built_at 5) (out_1 ∷ [])) 2, replicate 7 0) ∷
    (index_row (left_by (built_at 5) (off_2 ∷ out_1 ∷ [])) 1, 2 ∷ 2 ∷ 0 ∷ 1 ∷ 2 ∷ 0 ∷ 1 ∷ []) ∷
    ((left_by (built_at 5) (off_2 ∷ out_1 ∷ on_2 ∷ in_1 ∷ [])).part Index, (built_at 5).part Index) ∷
    ((left_by (built_at 5) (off_2 ∷ out_1 ∷ on_2 ∷ [])).part PresenceStamps, 0 ∷ 0 ∷ 7 ∷ 0 ∷ 0 ∷ 6 ∷ 0 ∷ []) ∷
    ((left_by (built_at 5) (off_2 ∷ out_1 ∷ on_2 ∷ [])).part Presence, 1 ∷ 1 ∷ 1 ∷ 1 ∷ 1 ∷ 0 ∷ 1 ∷ []) ∷
    ((left_by (built_at 5) (off_2 ∷ out_1 ∷ [])).part Operators, (built_at 5).part Operators) ∷
    (answers (built_at 5) (of_kind 3 2 0 6 ∷ off_2 ∷ of_kind 3 2 0 6 ∷ []), 0 ∷ 0 ∷ 0 ∷ 8 ∷ 10 ∷ 0 ∷ []) ∷
    (answers stored_7 (off_2 ∷ of_kind 3 2 0 6 ∷ []), 10 ∷ 0 ∷ 10 ∷ 0 ∷ []) ∷
    ((left_by stored_7 (of_kind 4 2 0 7 ∷ [])).part Presence, 1 ∷ 1 ∷ 0 ∷ 1 ∷ 1 ∷ 1 ∷ 1 ∷ []) ∷
    (answers stored_7 (out_1 ∷ []), 0 ∷ 12 ∷ []) ∷
    ((left_by stored_7 (out_1 ∷ [])).part Presence, 1 ∷ 1 ∷ 7 ∷ 1 ∷ 1 ∷ 0 ∷ 1 ∷ []) ∷
    (answers (built_at 5) (off_2 ∷ of_kind 1 2 0 6 ∷ on_2 ∷ []), 0 ∷ 8 ∷ 0 ∷ 0 ∷ 0 ∷ 17 ∷ []) ∷
    ((left_by (built_at 5) (off_2 ∷ of_kind 1 2 0 6 ∷ [])).head.pairs ∷ [], 8 ∷ []) ∷
    (index_row (left_by (built_at 5) (off_2 ∷ of_kind 1 2 0 6 ∷ on_2 ∷ [])) 2, 3 ∷ 3 ∷ 3 ∷ 0 ∷ 3 ∷ 3 ∷ 1 ∷ []) ∷
    (asked_as_is (left_by (built_at 5) (off_2 ∷ [])) 0 0, 0 ∷ 3 ∷ 3 ∷ 1 ∷ 1 ∷ 0 ∷ 1 ∷ 1 ∷ 1 ∷ 1 ∷ []) ∷
    (asked_as_is stored_7 1 3, 0 ∷ 2 ∷ 1 ∷ 1 ∷ 1 ∷ 0 ∷ 0 ∷ 0 ∷ 1 ∷ 0 ∷ []) ∷
    (peeled_as_is (left_by (built_at 5) (off_2 ∷ out_1 ∷ [])) 0 0 7, 0 ∷ 1 ∷ 2 ∷ 1 ∷ 1 ∷ 0 ∷ 1 ∷ 1 ∷ 0 ∷ 1 ∷ []) ∷
    (peeled_as_is (left_by (built_at 5) (off_2 ∷ out_1 ∷ [])) 0 0 1, 0 ∷ 0 ∷ 1 ∷ 1 ∷ 1 ∷ 0 ∷ 1 ∷ 1 ∷ 1 ∷ 1 ∷ []) ∷
    (peeled_as_is (left_by (built_at 5) (off_2 ∷ out_1 ∷ [])) 0 0 0, 0 ∷ 0 ∷ 0 ∷ replicate 7 1) ∷
    (peeled_as_is (left_by (built_at 5) (off_2 ∷ [])) 2 2 3, 0 ∷ 1 ∷ 3 ∷ 1 ∷ 1 ∷ 0 ∷ 0 ∷ 1 ∷ 1 ∷ 0 ∷ []) ∷
    (peeled_as_is (left_by (built_at 5) (off_2 ∷ [])) 2 2 2, 0 ∷ 0 ∷ 2 ∷ 1 ∷ 1 ∷ 0 ∷ 0 ∷ 1 ∷ 1 ∷ 1 ∷ []) ∷
    (answers (built_at 5) (of_kind 0 2 0 6 ∷ of_kind 7 2 0 6 ∷ []), 7 ∷ 0 ∷ 7 ∷ 0 ∷ []) ∷
    (answers (built_at 5) (of_kind 4 4 0 6 ∷ of_kind 4 2 9 6 ∷ []), 8 ∷ 0 ∷ 15 ∷ 0 ∷ []) ∷
    (answers (built_at 5) (of_kind 6 0 3 6 ∷ of_kind 6 9 1 6 ∷ []), 8 ∷ 0 ∷ 15 ∷ 0 ∷ []) ∷ (
      answers (built_at 5)
          (of_kind 4 2 1 0 ∷ record { kind = 4; operator = 2; ride = 1; revision = 256; stamp = 6 } ∷ off_2 ∷ of_kind 4 2 1 5 ∷ []),
      9 ∷ 0 ∷ 14 ∷ 0 ∷ 0 ∷ 8 ∷ 15 ∷ 0 ∷ [],
    ) ∷
    []

-- its cover under a list of limits, operators first
abbrev under : List ℕ → List ℕ
under list = cover_under board (λ x. get_or list x 0)

-- covers under a list of limits, by hand: ride 0 has limit 2 where the others have 3; ride 1 has 4 where they have 2; operator 3, whose limit is 0, keeps ride 2 and
-- operator 2 in cover (2,2); a limit of 65535 drops operator 0 alone
unfoldable pub limit_samples : List (List ℕ × List ℕ)
limit_samples =
    (under (1 ∷ 1 ∷ 1 ∷ 1 ∷ 2 ∷ 3 ∷ 3 ∷ []), 1 ∷ 1 ∷ 1 ∷ 0 ∷ 1 ∷ 1 ∷ 0 ∷ []) ∷
    (under (1 ∷ 1 ∷ 1 ∷ 1 ∷ 2 ∷ 4 ∷ 2 ∷ []), 1 ∷ 1 ∷ 1 ∷ 1 ∷ 1 ∷ 0 ∷ 1 ∷ []) ∷
    (under (2 ∷ 2 ∷ 2 ∷ 2 ∷ 2 ∷ 2 ∷ 2 ∷ []), 1 ∷ 1 ∷ 0 ∷ 0 ∷ 1 ∷ 1 ∷ 0 ∷ []) ∷
    (under (2 ∷ 2 ∷ 2 ∷ 0 ∷ 2 ∷ 2 ∷ 2 ∷ []), 1 ∷ 1 ∷ 1 ∷ 1 ∷ 1 ∷ 1 ∷ 1 ∷ []) ∷
    (under (65535 ∷ 0 ∷ 0 ∷ 0 ∷ 0 ∷ 0 ∷ 0 ∷ []), 0 ∷ 1 ∷ 1 ∷ 1 ∷ 1 ∷ 1 ∷ 1 ∷ []) ∷
    []

-- a band, and a crowd table of these bands, lent with a band of no meaning in each place behind them
abbrev from_to : ℕ → ℕ → ℕ → ℕ → Band
from_to first last alpha beta = record { first = first; last = last; alpha = alpha; beta = beta }

abbrev of_bands : List Band → Bands
of_bands bands =
    record { count = length bands; bands = bands ++ replicate (8 - length bands) (from_to 9 9 9 9) }

-- what a look-up gives: its number and the limits
abbrev looked_up : Bands → ℕ → List ℕ
looked_up t guests =
    let o = board_crowd_limits t guests in o.code ∷ o.alpha ∷ o.beta ∷ []

-- what a cover for a guest count gives on document 01's board with these presence words and without minimums, from so many marks of 7
abbrev crowd_asked : List ℕ → Bands → ℕ → ℕ → List ℕ
crowd_asked presence t guests places =
    marked_and_counted
    (board_crowd_cover table.head (table.part Operators) (table.part Rides) presence t guests (replicate 3 0) (replicate places 7))

-- three bands, the lowest in the middle, the one of guest count 0 alone
abbrev three : Bands
three = of_bands (from_to 101 20000 2 2 ∷ from_to 0 0 0 0 ∷ from_to 1 100 1 3 ∷ [])

-- eight bands, seven of one guest count each
abbrev eight : Bands
eight =
    of_bands
    (from_to 20000 20000 8 8 ∷ from_to 6 19999 7 7 ∷ from_to 5 5 6 6 ∷ from_to 4 4 5 5 ∷ from_to 3 3 4 4 ∷ from_to 2 2 3 3 ∷
    from_to 1 1 2 2 ∷ from_to 0 0 1 0 ∷ [])

-- two bands that touch at 100, and three behind which 20,000 is missing: an overlap, and with the last one a gap too
abbrev touching : Bands
touching = of_bands (from_to 0 100 1 1 ∷ from_to 100 20000 1 1 ∷ [])

abbrev overlap_and_gap : Bands
overlap_and_gap = of_bands (from_to 50 100 1 1 ∷ from_to 0 60 1 1 ∷ from_to 101 19999 1 1 ∷ [])

-- limits by crowd, by hand. Look-ups at the first and the last guest count of bands, in one band and in eight.
-- 16: no bands, nine, a first count above its last, a last count of 20,001, and 20,001 guests; also where 17 and 18 apply.
-- 17: bands that touch at one count; also where there is a gap. 18: a gap at 0, at 20,000, and of one count between.
-- On document 01's board: (0,0) everyone; (1,3) operators 0, 1, 2 and ride 1; (2,2) operators 0, 1 and rides 0, 1. Without operator 2 (0,0) has all
-- others. The eighth mark stays, and so do all where the table is refused. Six marks are 3, whatever the table is.
unfoldable pub crowd_samples : List (List ℕ × List ℕ)
crowd_samples =
    (looked_up three 1, 0 ∷ 1 ∷ 3 ∷ []) ∷
    (looked_up three 100, 0 ∷ 1 ∷ 3 ∷ []) ∷
    (looked_up three 101, 0 ∷ 2 ∷ 2 ∷ []) ∷
    (looked_up (of_bands (from_to 0 20000 5 65535 ∷ [])) 20000, 0 ∷ 5 ∷ 65535 ∷ []) ∷
    (looked_up eight 19999, 0 ∷ 7 ∷ 7 ∷ []) ∷
    (looked_up eight 20000, 0 ∷ 8 ∷ 8 ∷ []) ∷
    (looked_up (of_bands []) 0, 16 ∷ 0 ∷ 0 ∷ []) ∷
    (looked_up (record { count = 9; bands = eight.bands }) 0, 16 ∷ 0 ∷ 0 ∷ []) ∷
    (looked_up (of_bands (from_to 0 20000 1 1 ∷ from_to 8 7 1 1 ∷ [])) 0, 16 ∷ 0 ∷ 0 ∷ []) ∷
    (looked_up (of_bands (from_to 0 20001 1 1 ∷ [])) 0, 16 ∷ 0 ∷ 0 ∷ []) ∷
    (looked_up three 20001, 16 ∷ 0 ∷ 0 ∷ []) ∷
    (looked_up overlap_and_gap 20001, 16 ∷ 0 ∷ 0 ∷ []) ∷
    (looked_up touching 0, 17 ∷ 0 ∷ 0 ∷ []) ∷
    (looked_up overlap_and_gap 0, 17 ∷ 0 ∷ 0 ∷ []) ∷
    (looked_up (of_bands (from_to 1 20000 1 1 ∷ [])) 1, 18 ∷ 0 ∷ 0 ∷ []) ∷
    (looked_up (of_bands (from_to 0 19999 1 1 ∷ [])) 1, 18 ∷ 0 ∷ 0 ∷ []) ∷
    (looked_up (of_bands (from_to 0 99 1 1 ∷ from_to 101 20000 1 1 ∷ [])) 1, 18 ∷ 0 ∷ 0 ∷ []) ∷
    (crowd_asked (replicate 7 1) three 0 8, 0 ∷ 4 ∷ 3 ∷ 1 ∷ 1 ∷ 1 ∷ 1 ∷ 1 ∷ 1 ∷ 1 ∷ 7 ∷ []) ∷
    (crowd_asked (replicate 7 1) three 50 8, 0 ∷ 3 ∷ 1 ∷ 1 ∷ 1 ∷ 1 ∷ 0 ∷ 0 ∷ 1 ∷ 0 ∷ 7 ∷ []) ∷
    (crowd_asked (replicate 7 1) three 20000 7, 0 ∷ 2 ∷ 2 ∷ 1 ∷ 1 ∷ 0 ∷ 0 ∷ 1 ∷ 1 ∷ 0 ∷ []) ∷
    (crowd_asked (1 ∷ 1 ∷ 0 ∷ 1 ∷ 1 ∷ 1 ∷ 1 ∷ []) three 0 7, 0 ∷ 3 ∷ 3 ∷ 1 ∷ 1 ∷ 0 ∷ 1 ∷ 1 ∷ 1 ∷ 1 ∷ []) ∷
    (crowd_asked (replicate 7 1) touching 0 8, 17 ∷ 0 ∷ 0 ∷ replicate 8 7) ∷
    (crowd_asked (replicate 7 1) touching 0 6, 3 ∷ 0 ∷ 0 ∷ replicate 6 7) ∷
    []

-- a park with a coaster, a carousel and a third ride: operators 0 to 4 are cleared for the coaster, 4 and 5 for the carousel, 5 for the third
abbrev park : List ℕ → List ℕ → ℕ → ℕ → ℕ → QueryOutcome
park presence minimums α β places =
    board_own_cover (record { operators = 6; rides = 3; pairs = 8 })
    (0 ∷ 1 ∷ 2 ∷ 3 ∷ 4 ∷ 4 ∷ 5 ∷ 5 ∷ replicate 10 9)
    (0 ∷ 0 ∷ 0 ∷ 0 ∷ 0 ∷ 1 ∷ 1 ∷ 2 ∷ replicate 10 9)
    presence minimums α β (replicate places 7)

-- what its cover with minimums gives with everybody present, and without operator 0
abbrev all_here : List ℕ → ℕ → ℕ → List ℕ
all_here minimums α β = marked_and_counted (park (replicate 9 1) minimums α β 10)

abbrev without_0 : List ℕ → ℕ → ℕ → List ℕ
without_0 minimums α β = marked_and_counted (park (0 ∷ replicate 8 1) minimums α β 9)

-- what the cover with minimums gives on document 01's board, with a number of pairs of its own
abbrev own_asked : List ℕ → ℕ → ℕ → ℕ → List ℕ
own_asked minimums α β pairs =
    marked_and_counted
    (board_own_cover (record { operators = 4; rides = 3; pairs = pairs }) (table.part Operators) (table.part Rides) (replicate 7 1) minimums α β (replicate 7 7))

-- what a peel of it gives from these marks
abbrev own_peeled : List ℕ → List ℕ → ℕ → ℕ → ℕ → List ℕ
own_peeled minimums marks α β allowed =
    let o = board_peel table.head (table.part Operators) (table.part Rides) (replicate 7 1) minimums marks α β allowed in
    o.answer.code ∷ o.answer.settled ∷ o.answer.steps ∷ o.marks

-- minimums, by hand. In the park the coaster needs five and the carousel two: with (1,3) both run, the third ride, with 1 operator, doesn't;
-- without minimums the coaster alone. Without operator 0 the coaster falls short of five, and operators 1, 2, 3 have no ride; without minimums it
-- runs with four. With β = 0 the third ride runs too. With α = 2 operators 4 and 5 alone have two rides; a carousel that needs three takes all along.
-- A minimum of 65535 is never met. The tenth mark stays.
-- On document 01's board: document 02's samples of 2.8 by (1,3) and (1,2); words behind the rides' minimums aren't read. All minimums 2 are cover
-- (1,2), whatever β is. A list of two is 3, also where 4 applies, which comes with three.
-- A peel (1,3) with minimum 2 at ride 0 drops ride 2, then operator 3; without it rides 0 and 2, then operator 3. Without operator 2 from the start, and with
-- minimum 2 at rides 0 and 1, ride 2 and operator 3 go. A short list is 3, and leaves the marks.
unfoldable pub minimum_samples : List (List ℕ × List ℕ)
minimum_samples =
    (all_here (5 ∷ 2 ∷ 0 ∷ []) 1 3, 0 ∷ 6 ∷ 2 ∷ 1 ∷ 1 ∷ 1 ∷ 1 ∷ 1 ∷ 1 ∷ 1 ∷ 1 ∷ 0 ∷ 7 ∷ []) ∷
    (all_here (replicate 3 0) 1 3, 0 ∷ 5 ∷ 1 ∷ 1 ∷ 1 ∷ 1 ∷ 1 ∷ 1 ∷ 0 ∷ 1 ∷ 0 ∷ 0 ∷ 7 ∷ []) ∷
    (without_0 (5 ∷ 2 ∷ 0 ∷ []) 1 3, 0 ∷ 2 ∷ 1 ∷ 0 ∷ 0 ∷ 0 ∷ 0 ∷ 1 ∷ 1 ∷ 0 ∷ 1 ∷ 0 ∷ []) ∷
    (without_0 (replicate 3 0) 1 3, 0 ∷ 4 ∷ 1 ∷ 0 ∷ 1 ∷ 1 ∷ 1 ∷ 1 ∷ 0 ∷ 1 ∷ 0 ∷ 0 ∷ []) ∷
    (all_here (5 ∷ 2 ∷ 0 ∷ []) 1 0, 0 ∷ 6 ∷ 3 ∷ replicate 9 1 ++ 7 ∷ []) ∷
    (all_here (0 ∷ 2 ∷ 0 ∷ []) 2 1, 0 ∷ 2 ∷ 3 ∷ 0 ∷ 0 ∷ 0 ∷ 0 ∷ 1 ∷ 1 ∷ 1 ∷ 1 ∷ 1 ∷ 7 ∷ []) ∷
    (all_here (0 ∷ 3 ∷ 0 ∷ []) 2 1, 0 ∷ 0 ∷ 0 ∷ replicate 9 0 ++ 7 ∷ []) ∷
    (all_here (65535 ∷ 0 ∷ 0 ∷ []) 0 0, 0 ∷ 6 ∷ 2 ∷ 1 ∷ 1 ∷ 1 ∷ 1 ∷ 1 ∷ 1 ∷ 0 ∷ 1 ∷ 1 ∷ 7 ∷ []) ∷
    (own_asked (2 ∷ 0 ∷ 0 ∷ []) 1 3 7, 0 ∷ 3 ∷ 2 ∷ 1 ∷ 1 ∷ 1 ∷ 0 ∷ 1 ∷ 1 ∷ 0 ∷ []) ∷
    (own_asked (0 ∷ 4 ∷ 0 ∷ 9 ∷ []) 1 2 7, 0 ∷ 4 ∷ 2 ∷ 1 ∷ 1 ∷ 1 ∷ 1 ∷ 1 ∷ 0 ∷ 1 ∷ []) ∷
    (own_asked (2 ∷ 2 ∷ 2 ∷ []) 1 9 7, 0 ∷ 4 ∷ 3 ∷ replicate 7 1) ∷
    (own_asked (replicate 3 0) 1 3 7, 0 ∷ 3 ∷ 1 ∷ 1 ∷ 1 ∷ 1 ∷ 0 ∷ 0 ∷ 1 ∷ 0 ∷ []) ∷
    (own_asked (2 ∷ 2 ∷ []) 1 3 7, 3 ∷ 0 ∷ 0 ∷ replicate 7 7) ∷
    (own_asked (2 ∷ 2 ∷ []) 1 3 13, 3 ∷ 0 ∷ 0 ∷ replicate 7 7) ∷
    (own_asked (2 ∷ 2 ∷ 2 ∷ []) 1 3 13, 4 ∷ 0 ∷ 0 ∷ replicate 7 7) ∷
    (own_peeled (2 ∷ 0 ∷ 0 ∷ []) (replicate 7 1) 1 3 7, 0 ∷ 1 ∷ 2 ∷ 1 ∷ 1 ∷ 1 ∷ 0 ∷ 1 ∷ 1 ∷ 0 ∷ []) ∷
    (own_peeled (2 ∷ 0 ∷ 0 ∷ []) (replicate 7 1) 1 3 1, 0 ∷ 0 ∷ 1 ∷ 1 ∷ 1 ∷ 1 ∷ 1 ∷ 1 ∷ 1 ∷ 0 ∷ []) ∷
    (own_peeled (replicate 3 0) (replicate 7 1) 1 3 7, 0 ∷ 1 ∷ 3 ∷ 1 ∷ 1 ∷ 1 ∷ 0 ∷ 0 ∷ 1 ∷ 0 ∷ []) ∷
    (own_peeled (2 ∷ 2 ∷ 0 ∷ []) (1 ∷ 1 ∷ 0 ∷ 1 ∷ 1 ∷ 1 ∷ 1 ∷ []) 1 3 7, 0 ∷ 1 ∷ 2 ∷ 1 ∷ 1 ∷ 0 ∷ 0 ∷ 1 ∷ 1 ∷ 0 ∷ []) ∷
    (own_peeled (2 ∷ 0 ∷ []) (replicate 7 1) 1 3 7, 3 ∷ 0 ∷ 0 ∷ replicate 7 1) ∷
    []

-- what a cover for a guest count with minimums gives on document 01's board, with everybody present and a number of pairs of its own
abbrev both_asked : Bands → ℕ → List ℕ → ℕ → List ℕ
both_asked t guests minimums pairs =
    marked_and_counted
    (board_crowd_cover (record { operators = 4; rides = 3; pairs = pairs }) (table.part Operators) (table.part Rides) (replicate 7 1) t guests minimums (replicate 8 7))

-- the same by a table of one band with limits (α, β), as it is with no minimum and with these
abbrev before_and_after : ℕ → ℕ → List ℕ → List ℕ
before_and_after α β minimums =
    let t = of_bands (from_to 0 20000 α β ∷ []) in both_asked t 0 (replicate 3 0) 7 ++ both_asked t 0 minimums 7

-- crowd table and own minimum, by hand on document 01's board, whose rides have 2, 3 and 2 operators.
-- Document 02's: with (1,3) and minimum 2 at ride 0 the rides were 1 and are 0 and 1, with operators 0, 1, 2 both times. With (1,2) and minimum 4 at
-- ride 1 the rides were all and are 0 and 2, with all operators both times. A minimum equal to the band's β changes nothing.
-- By three bands: in (1,3) minimum 2 at ride 2 lets it run, and in (2,2) minimum 1, with operator 2; in (0,0) minimum 4 at ride 1 is held to.
-- The eighth mark stays, and words behind the rides' minimums aren't read.
-- A list of two is 3, also where the table is refused and where 4 applies; that comes before 17, which comes with a list that is long enough.
unfoldable pub both_samples : List (List ℕ × List ℕ)
both_samples =
    (before_and_after 1 3 (2 ∷ 0 ∷ 0 ∷ []), 0 ∷ 3 ∷ 1 ∷ 1 ∷ 1 ∷ 1 ∷ 0 ∷ 0 ∷ 1 ∷ 0 ∷ 7 ∷ 0 ∷ 3 ∷ 2 ∷ 1 ∷ 1 ∷ 1 ∷ 0 ∷ 1 ∷ 1 ∷ 0 ∷ 7 ∷ []) ∷
    (before_and_after 1 2 (0 ∷ 4 ∷ 0 ∷ []), 0 ∷ 4 ∷ 3 ∷ 1 ∷ 1 ∷ 1 ∷ 1 ∷ 1 ∷ 1 ∷ 1 ∷ 7 ∷ 0 ∷ 4 ∷ 2 ∷ 1 ∷ 1 ∷ 1 ∷ 1 ∷ 1 ∷ 0 ∷ 1 ∷ 7 ∷ []) ∷
    (both_asked three 50 (3 ∷ 0 ∷ 3 ∷ []) 7, 0 ∷ 3 ∷ 1 ∷ 1 ∷ 1 ∷ 1 ∷ 0 ∷ 0 ∷ 1 ∷ 0 ∷ 7 ∷ []) ∷
    (both_asked three 50 (0 ∷ 0 ∷ 2 ∷ 9 ∷ []) 7, 0 ∷ 4 ∷ 2 ∷ 1 ∷ 1 ∷ 1 ∷ 1 ∷ 0 ∷ 1 ∷ 1 ∷ 7 ∷ []) ∷
    (both_asked three 101 (0 ∷ 0 ∷ 1 ∷ []) 7, 0 ∷ 3 ∷ 3 ∷ 1 ∷ 1 ∷ 1 ∷ 0 ∷ 1 ∷ 1 ∷ 1 ∷ 7 ∷ []) ∷
    (both_asked three 0 (0 ∷ 4 ∷ 0 ∷ []) 7, 0 ∷ 4 ∷ 2 ∷ 1 ∷ 1 ∷ 1 ∷ 1 ∷ 1 ∷ 0 ∷ 1 ∷ 7 ∷ []) ∷
    (both_asked three 50 (2 ∷ 2 ∷ []) 7, 3 ∷ 0 ∷ 0 ∷ replicate 8 7) ∷
    (both_asked touching 0 (2 ∷ 2 ∷ []) 13, 3 ∷ 0 ∷ 0 ∷ replicate 8 7) ∷
    (both_asked touching 0 (2 ∷ 2 ∷ 2 ∷ []) 13, 4 ∷ 0 ∷ 0 ∷ replicate 8 7) ∷
    (both_asked touching 0 (2 ∷ 2 ∷ 2 ∷ []) 7, 17 ∷ 0 ∷ 0 ∷ replicate 8 7) ∷
    []

-- in each row of a table the two lists are equal
abbrev pub Agree : List (List ℕ × List ℕ) → Type 0
Agree [] = Unit
Agree (r ∷ rs) = (r.0 ≡ r.1) × Agree rs
