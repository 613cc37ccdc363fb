-- Laws of queries: document 02, 2.1, and demand 2 for queries.
use Rattle.std.specs.Prelude.{◌≡◌, ◌≢◌, Bool, false, ◌&&◌, List, ◌++◌, ℕ, ◌+◌, ◌-◌, ◌*◌, ◌≤◌, ◌<◌, leb, length, get_or, drop}
use Rattle.model.specs.declared.Head.{Head}
use Rattle.model.specs.Count.{count}
use Rattle.model.specs.Graph.{Graph, everybody, Largest, limits, CoreInside, marked, present, counting, index_of}
use Rattle.model.specs.Layout.{Index, Presence, Board, mark_places, sized, listed_graph}
use Rattle.model.specs.Refusal.{build_refusal}
use Rattle.model.specs.Calls.{QueryOutcome, query_marks, board_build, board_query}

-- Document 02, 2.1, sentence by sentence, of what a query marks on any index, of those present; ride v is node operators + v
pub record ZeroIsNoLimit (h : Head) (index presence : List ℕ) : Type 0 where
  -- with α = 0 all operators are in, and a ride is in if its row 1 level is at least β
  pub all_operators : (β u : ℕ) → u < h.operators → marked (query_marks h index presence 0 β) u ≡ present presence u
  pub rides_by_row_1 : (β v : ℕ) → v < h.rides →
      marked (query_marks h index presence 0 β) (h.operators + v) ≡ (present presence (h.operators + v) && leb β (get_or index (h.operators + v) 0))
  -- with β = 0 all rides are in, and an operator is in if its row α level is at least 1
  pub all_rides : (α v : ℕ) → v < h.rides → marked (query_marks h index presence α 0) (h.operators + v) ≡ present presence (h.operators + v)
  pub operators_by_row : (α u : ℕ) → 1 ≤ α → α ≤ h.rides → u < h.operators →
      marked (query_marks h index presence α 0) u ≡ (present presence u && leb 1 (get_or index ((α - 1) * mark_places h + u) 0))
  -- for α above rides β = 0 marks the rides alone
  pub rides_alone : (α u : ℕ) → h.rides < α → u < h.operators → marked (query_marks h index presence α 0) u ≡ false
  -- with both 0 everyone is in
  pub everyone : (x : ℕ) → x < mark_places h → marked (query_marks h index presence 0 0) x ≡ present presence x
  -- limits from 1 are document 01's: the row α level is at least β, and α above rides marks nobody
  pub from_one : (α β x : ℕ) → 1 ≤ α → 1 ≤ β → x < mark_places h →
      marked (query_marks h index presence α β) x ≡ (present presence x && (leb α h.rides && leb β (get_or index ((α - 1) * mark_places h + x) 0)))

-- Demand 2 for queries: on the index of any clearances of the head's sizes that count, the marks are the largest set of those present under
-- α and β, for every α and β from 0
abbrev pub QueryIsCore : Type 0
QueryIsCore =
    (h : Head) (cleared : ℕ → ℕ → Bool) (presence : List ℕ) (α β : ℕ) →
    let g = counting (sized h cleared) (present presence) in
    CoreInside g (present presence) α β (marked (query_marks h (index_of g) presence α β))

-- what a query or a cover gives is the largest set of those who are here under a limit for each node, with its sizes
pub record IsCoverUnder (g : Graph) (here : ℕ → Bool) (limit : ℕ → ℕ) (o : QueryOutcome) : Type 0 where
  pub code : o.answer.code ≡ 0
  pub largest : Largest g limit here (marked o.marks)
  pub operators : o.answer.operators ≡ count g.operators (marked o.marks)
  pub rides : o.answer.rides ≡ count g.rides (λ v. marked o.marks (g.operators + v))

-- the (α, β)-core of those who are here, with its sizes: the largest set under the limits (α, β)
abbrev pub IsCore : Graph → (ℕ → Bool) → ℕ → ℕ → QueryOutcome → Type 0
IsCore g here α β o = IsCoverUnder g here (limits g.operators α β) o

-- a cover that is refused leaves the marks, with counts of 0; refused or not, marks past operators + rides stay
pub record Keeps (h : Head) (marks : List ℕ) (o : QueryOutcome) : Type 0 where
  pub kept : o.answer.code ≢ 0 → o.marks ≡ marks
  pub no_operators : o.answer.code ≢ 0 → o.answer.operators ≡ 0
  pub no_rides : o.answer.code ≢ 0 → o.answer.rides ≡ 0
  pub behind : drop (mark_places h) o.marks ≡ drop (mark_places h) marks

-- the same of the call, with any words behind the index: its marks are the core, and its counts the core's sizes
abbrev pub IndexThenQuery : Type 0
IndexThenQuery =
    (h : Head) (cleared : ℕ → ℕ → Bool) (presence more : List ℕ) (α β : ℕ) (marks : List ℕ) →
    h.operators ≤ 200 →
    h.rides ≤ 60 →
    mark_places h ≤ length presence →
    mark_places h ≤ length marks →
    let g = counting (sized h cleared) (present presence) in
    IsCore g (present presence) α β (board_query h (index_of g ++ more) presence α β marks)

-- the same of the index and the presence words that the build of an accepted table left: the core of all its pairs, with everybody here
abbrev pub BuildThenQuery : Type 0
BuildThenQuery =
    (b : Board) (start α β : ℕ) (marks : List ℕ) →
    build_refusal b start ≡ 0 →
    mark_places b.head ≤ length marks →
    let left = (board_build b start).board in
    IsCore (listed_graph b) everybody α β (board_query b.head (left.part Index) (left.part Presence) α β marks)
