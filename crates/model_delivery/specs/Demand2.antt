-- Demand 2, all of it: index, queries and peel give the (α, β)-core of Definition 2.1, of the pairs that count and those present, on any index of
-- clearances, after a build, and after any list of calls; peel, own cover and cover for a guest count with minimums give the largest set under them.
use Rattle.std.specs.Prelude.{◌≡◌, List, ◌++◌, ℕ, ◌≤◌, length}
use Rattle.model.specs.declared.Head.{Head}
use Rattle.model.specs.declared.Bands.{Bands}
use Rattle.model.specs.Graph.{own_limits, present, index_of}
use Rattle.model.specs.Layout.{Operators, Rides, Index, Presence, Board, mark_places, counting_graph, board_graph}
use Rattle.model.specs.Refusal.{build_refusal, peel_refusal}
use Rattle.model.specs.Calls.{board_query, board_peel, board_own_cover}
use Rattle.model.specs.Crowd.{board_crowd_limits, board_crowd_cover}
use Rattle.model.specs.CoverLaws.{AllOnes, CoverLaws, CoverUnderLaws, LevelLaws}
use Rattle.model.specs.PeelLaws.{PeelLaws, PeelIsLargest, IsPeeledCover}
use Rattle.model.specs.QueryLaws.{ZeroIsNoLimit, QueryIsCore, IsCoverUnder, IsCore, IndexThenQuery, BuildThenQuery}
use Rattle.model.specs.PresenceLaws.{PresenceLaws}
use Rattle.model.specs.PreviewLaws.{PreviewThenQuery}
use Rattle.model.specs.MinimumLaws.{OwnLimitsLaws, MinimumsZeroOr, PeelIsCover, OwnCoverLaws}
use Rattle.model.specs.CrowdLaws.{CrowdLimitsLaws, CrowdCoverLaws}
use Rattle.model_delivery.specs.Calls.{Call, run, built_board}

-- the index that a list of calls left is that of the listed pairs that then count
abbrev pub CallsThenIndex : Type 0
CallsThenIndex =
    (b : Board) (start : ℕ) (calls : List Call) →
    build_refusal b start ≡ 0 →
    let left = run (built_board b start) calls in
    left.part Index ≡ index_of (board_graph left)

-- each query of that board, its index and its presence words lent with any words behind them, gives the core of the pairs that count, of those
-- present, with its sizes
abbrev pub CallsThenQuery : Type 0
CallsThenQuery =
    (b : Board) (start : ℕ) (calls : List Call) (more more' : List ℕ) (α β : ℕ) (marks : List ℕ) →
    build_refusal b start ≡ 0 →
    mark_places b.head ≤ length marks →
    let left = run (built_board b start) calls in
    IsCore (board_graph left) (present (left.part Presence)) α β
    (board_query left.head (left.part Index ++ more) (left.part Presence ++ more') α β marks)

-- each peel of it from all ones, its pair arrays and presence words lent with any words behind them, gives the largest set under its limits once it
-- is settled: α, and each ride's own minimum, or β
abbrev pub CallsThenPeel : Type 0
CallsThenPeel =
    (b : Board) (start : ℕ) (calls : List Call) (more more' more'' minimums : List ℕ) (α β allowed : ℕ) (marks : List ℕ) →
    build_refusal b start ≡ 0 →
    b.head.rides ≤ length minimums →
    mark_places b.head ≤ length marks →
    AllOnes (board_graph b) marks →
    let left = run (built_board b start) calls in
    IsPeeledCover (board_graph left) (present (left.part Presence)) (own_limits b.head.operators minimums α β) allowed
    (board_peel left.head (left.part Operators ++ more) (left.part Rides ++ more') (left.part Presence ++ more'') minimums marks α β allowed)

-- each cover of it with minimums gives that set too, with its sizes
abbrev pub CallsThenOwnCover : Type 0
CallsThenOwnCover =
    (b : Board) (start : ℕ) (calls : List Call) (more more' more'' minimums : List ℕ) (α β : ℕ) (marks : List ℕ) →
    build_refusal b start ≡ 0 →
    b.head.rides ≤ length minimums →
    mark_places b.head ≤ length marks →
    let left = run (built_board b start) calls in
    IsCoverUnder (board_graph left) (present (left.part Presence)) (own_limits b.head.operators minimums α β)
    (board_own_cover left.head (left.part Operators ++ more) (left.part Rides ++ more') (left.part Presence ++ more'') minimums α β marks)

-- and where each minimum is 0 or β its marks and counts are those of a query on the index that the calls left
abbrev pub CallsThenSame : Type 0
CallsThenSame =
    (b : Board) (start : ℕ) (calls : List Call) (more more' more'' more''' minimums : List ℕ) (α β : ℕ) (marks : List ℕ) →
    build_refusal b start ≡ 0 →
    b.head.rides ≤ length minimums →
    mark_places b.head ≤ length marks →
    MinimumsZeroOr b.head.rides minimums β →
    let left = run (built_board b start) calls in
    board_query left.head (left.part Index ++ more''') (left.part Presence ++ more'') α β marks
    ≡ board_own_cover left.head (left.part Operators ++ more) (left.part Rides ++ more') (left.part Presence ++ more'') minimums α β marks

-- each cover of it for a guest count, by a table that is accepted, gives the largest set under its limits: the look-up's α, and each ride's own
-- minimum, or the look-up's β
abbrev pub CallsThenCrowdCover : Type 0
CallsThenCrowdCover =
    (b : Board) (start : ℕ) (calls : List Call) (more more' more'' minimums : List ℕ) (t : Bands) (guests : ℕ) (marks : List ℕ) →
    build_refusal b start ≡ 0 →
    b.head.rides ≤ length minimums →
    mark_places b.head ≤ length marks →
    (board_crowd_limits t guests).code ≡ 0 →
    let left = run (built_board b start) calls in
    IsCoverUnder (board_graph left) (present (left.part Presence))
    (own_limits b.head.operators minimums (board_crowd_limits t guests).alpha (board_crowd_limits t guests).beta)
    (board_crowd_cover left.head (left.part Operators ++ more) (left.part Rides ++ more') (left.part Presence ++ more'') t guests minimums marks)

-- and where each minimum is 0 or the look-up's β its marks and counts are those of a query for the look-up's limits
abbrev pub CallsThenCrowdSame : Type 0
CallsThenCrowdSame =
    (b : Board) (start : ℕ) (calls : List Call) (more more' more'' more''' minimums : List ℕ) (t : Bands) (guests : ℕ) (marks : List ℕ) →
    build_refusal b start ≡ 0 →
    b.head.rides ≤ length minimums →
    mark_places b.head ≤ length marks →
    (board_crowd_limits t guests).code ≡ 0 →
    MinimumsZeroOr b.head.rides minimums (board_crowd_limits t guests).beta →
    let left = run (built_board b start) calls in
    board_query left.head (left.part Index ++ more''') (left.part Presence ++ more'') (board_crowd_limits t guests).alpha (board_crowd_limits t guests).beta marks
    ≡ board_crowd_cover left.head (left.part Operators ++ more) (left.part Rides ++ more') (left.part Presence ++ more'') t guests minimums marks

-- Demand 2, all of it
pub record Demand2 : Type 0 where
  -- of the definitions: cover, level and index, peel, what a query marks, and minimums
  pub cover_laws : CoverLaws
  pub cover_under_laws : CoverUnderLaws
  pub level_laws : LevelLaws
  pub peel_laws : PeelLaws
  pub zero_is_no_limit : (h : Head) (index presence : List ℕ) → ZeroIsNoLimit h index presence
  pub presence_laws : PresenceLaws
  pub query_is_core : QueryIsCore
  pub own_limits_laws : (minimums : List ℕ) (α β : ℕ) → OwnLimitsLaws minimums α β
  -- of the calls
  pub index_then_query : IndexThenQuery
  pub build_then_query : BuildThenQuery
  pub preview_then_query : PreviewThenQuery
  pub peel_is_largest : PeelIsLargest
  pub peel_is_cover : (h : Head) (operators rides presence minimums marks : List ℕ) (α β allowed : ℕ) →
      peel_refusal h operators rides presence minimums marks ≡ 0 → AllOnes (counting_graph h operators rides presence) marks →
      PeelIsCover h operators rides presence minimums marks α β allowed
  pub own_cover_laws : (h : Head) (operators rides presence minimums : List ℕ) (α β : ℕ) (marks : List ℕ) →
      OwnCoverLaws h operators rides presence minimums α β marks
  pub crowd_limits_laws : (t : Bands) (guests : ℕ) → CrowdLimitsLaws t guests
  pub crowd_cover_laws : (h : Head) (operators rides presence : List ℕ) (t : Bands) (guests : ℕ) (minimums marks : List ℕ) →
      CrowdCoverLaws h operators rides presence t guests minimums marks
  -- from end to end
  pub calls_then_index : CallsThenIndex
  pub calls_then_query : CallsThenQuery
  pub calls_then_peel : CallsThenPeel
  pub calls_then_own_cover : CallsThenOwnCover
  pub calls_then_same : CallsThenSame
  pub calls_then_crowd_cover : CallsThenCrowdCover
  pub calls_then_crowd_same : CallsThenCrowdSame
