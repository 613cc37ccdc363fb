-- Document 01, What the board does, and document 02, 2.1, 2.4 and 2.7: build, query, peel and the cover with minimums, each a function from all
-- that comes in to all that comes out.
use Rattle.std.specs.Prelude.{true, false, ◌&&◌, List, ℕ, zero, suc, ◌+◌, ◌-◌, ◌*◌, leb, length, get_or}
use Rattle.model.specs.declared.Head.{Head}
use Rattle.model.specs.declared.Counts.{Counts}
use Rattle.model.specs.declared.Peeled.{Peeled}
use Rattle.model.specs.Count.{bit, count, values}
use Rattle.model.specs.Graph.{Graph, limits, own_limits, marked, present, raised, settled, removals, peel, cover_under, row_for, in_by_level}
use Rattle.model.specs.Layout.{Board, mark_places, over, onto, counting_graph, listed_graph}
use Rattle.model.specs.Contents.{Pair, Operator, Ride, Contents, unheard, board_of}
use Rattle.model.specs.Refusal.{build_refusal, query_refusal, peel_refusal, own_cover_refusal}

-- what a build gives: the number, and the board at exit
pub record BuildOutcome : Type 0 where
  pub code : ℕ
  pub board : Board

-- what a board says after a build: each listed pair a grant of the starting stamp and revision 0, all else never heard of
abbrev pub start_contents : Graph → ℕ → Contents
start_contents g start (Pair u v) =
    record { stamp = elim (g.cleared u v) [ true ↦ start | false ↦ 0 ]; revision = 0; word = bit (g.cleared u v) }
start_contents g start (Operator u) = unheard (Operator u)
start_contents g start (Ride v) = unheard (Ride v)

-- Build, where no number applies
unfoldable pub built : Board → ℕ → Board
built b start = onto (board_of b.head (start_contents (listed_graph b) start)) b.part

-- Build
unfoldable pub board_build : Board → ℕ → BuildOutcome
board_build b start =
    elim (build_refusal b start) [
      | zero ↦ record { code = 0; board = built b start }
      | suc k ↦ record { code = suc k; board = b }
    ]

-- what a query gives: its answer, and the marks at exit
pub record QueryOutcome : Type 0 where
  pub answer : Counts
  pub marks : List ℕ

-- the level of node x that a query reads: its word in row α of the index, in row 1 for α = 0; level 0 where the index has no such row
abbrev pub level_read : Head → List ℕ → ℕ → ℕ → ℕ
level_read h index α x =
    elim (leb (row_for α) h.rides) [
      | true ↦ get_or index ((row_for α - 1) * mark_places h + x) 0
      | false ↦ 0
    ]

-- the marks that a query sets, of those present alone: 1 for all without a limit, and else exactly if that level is at least β, and at least 1
unfoldable pub query_marks : Head → List ℕ → List ℕ → ℕ → ℕ → List ℕ
query_marks h index presence α β =
    values (mark_places h)
    (λ x. bit (present presence x && in_by_level (limits h.operators α β x) β (level_read h index α x)))

-- the counts of operators and rides marked
unfoldable pub counts : Head → List ℕ → Counts
counts h marks =
    record {
      code = 0;
      operators = count h.operators (marked marks);
      rides = count h.rides (λ v. marked marks (h.operators + v));
    }

-- what a query or a cover gives: its marks over those that came in, and their counts
abbrev pub shown : Head → List ℕ → List ℕ → QueryOutcome
shown h new marks = record { answer = counts h new; marks = over new marks }

-- what it gives where it is refused: the number with counts of 0, and the marks that came in
abbrev pub not_shown : ℕ → List ℕ → QueryOutcome
not_shown number marks = record { answer = record { code = number; operators = 0; rides = 0 }; marks = marks }

-- Query
unfoldable pub board_query : Head → List ℕ → List ℕ → ℕ → ℕ → List ℕ → QueryOutcome
board_query h index presence α β marks =
    elim (query_refusal h index presence marks) [
      | zero ↦ shown h (query_marks h index presence α β) marks
      | suc k ↦ not_shown (suc k) marks
    ]

-- what a peel gives: its answer, and the marks at exit
pub record PeelOutcome : Type 0 where
  pub answer : Peeled
  pub marks : List ℕ

-- Peel under any limits, from any marks: settled or unsettled, the steps taken, and the marks left
unfoldable pub peeled : Graph → (ℕ → ℕ) → ℕ → List ℕ → PeelOutcome
peeled g limit allowed marks =
    record {
      answer = record {
        code = 0;
        settled = bit (settled g limit (peel g limit allowed marks));
        steps = length (removals g limit allowed marks);
      };
      marks = peel g limit allowed marks;
    }

-- these limits, with whoever is off or out falling short
abbrev pub present_limits : Head → List ℕ → (ℕ → ℕ) → ℕ → ℕ
present_limits h presence limit = raised (mark_places h) (present presence) limit

-- the limits of a peel (α, β) with minimums
abbrev pub peel_limits : Head → List ℕ → List ℕ → ℕ → ℕ → ℕ → ℕ
peel_limits h presence minimums α β = present_limits h presence (own_limits h.operators minimums α β)

-- Peel; it clears no mark past the nodes
unfoldable pub board_peel : Head → List ℕ → List ℕ → List ℕ → List ℕ → List ℕ → ℕ → ℕ → ℕ → PeelOutcome
board_peel h operators rides presence minimums marks α β allowed =
    elim (peel_refusal h operators rides presence minimums marks) [
      | zero ↦
          peeled (counting_graph h operators rides presence) (peel_limits h presence minimums α β) allowed marks
      | suc k ↦ record { answer = record { code = suc k; settled = 0; steps = 0 }; marks = marks }
    ]

-- the cover under these limits of the pairs that count and those present, as marks: the peel from all ones
unfoldable pub present_cover : Head → List ℕ → List ℕ → List ℕ → (ℕ → ℕ) → List ℕ
present_cover h operators rides presence limit =
    cover_under (counting_graph h operators rides presence) (present_limits h presence limit)

-- Own cover: the cover with minimums
unfoldable pub board_own_cover : Head → List ℕ → List ℕ → List ℕ → List ℕ → ℕ → ℕ → List ℕ → QueryOutcome
board_own_cover h operators rides presence minimums α β marks =
    elim (own_cover_refusal h operators rides presence minimums marks) [
      | zero ↦ shown h (present_cover h operators rides presence (own_limits h.operators minimums α β)) marks
      | suc k ↦ not_shown (suc k) marks
    ]
