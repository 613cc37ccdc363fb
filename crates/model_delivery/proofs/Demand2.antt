-- Demand 2: the board of a book, queried and peeled from all ones, gives the core of its pairs that count, of those present.
use mathlib.Core.Path.{◌≡◌, sym, ap, ◌∙◌, subst}
use mathlib.Core.Bool.{Bool}
use mathlib.Core.List.{List, [], ◌++◌}
use Prim.Native.Nat.{ℕ, ◌≤◌, ◌<◌}
use native.Mathlib.Omega.{arith}
use lib.ListN.{length, get_or, length-append}
use Rattle.model.specs.declared.Head.{Head}
use Rattle.model.specs.declared.Message.{Message}
use Rattle.model.specs.declared.Bands.{Bands}
use Rattle.model.specs.Graph.{Graph, nodes, limits, own_limits, marked, present, index_of}
use Rattle.model.specs.Layout.{Operators, Rides, Index, Presence, Parts, parts, Board, mark_places, listed_graph, board_graph}
use Rattle.model.specs.Calls.{QueryOutcome, PeelOutcome, board_query, board_peel, board_own_cover}
use Rattle.model.specs.Crowd.{board_crowd_limits, board_crowd_cover}
use Rattle.model.specs.PeelLaws.{IsPeeledCover}
use Rattle.model.specs.QueryLaws.{IsCoverUnder, IsCore}
use Rattle.model.specs.MinimumLaws.{MinimumsZeroOr}
use Rattle.model.proofs.Cover.{cover_laws, cover_under_laws}
use Rattle.model.proofs.Level.{level_laws}
use Rattle.model.proofs.Peel.{peel_laws}
use Rattle.model.proofs.Presence.{largest_start}
use Rattle.model.proofs.Query.{zero_is_no_limit, query_is_core, presence_laws}
use Rattle.model.proofs.Contents.{extend, present_extend, graph_extend, index_words}
use Rattle.model.proofs.EndToEnd.{index_then_query, build_then_query, own_cover_none, peel_none, peel_is_largest, peel_is_cover}
use Rattle.model.proofs.Preview.{preview_then_query}
use Rattle.model.proofs.OwnCover.{own_limits_laws, own_cover_laws}
use Rattle.model.proofs.CrowdTable.{crowd_limits_laws}
use Rattle.model.proofs.CrowdCover.{crowd_cover_laws}
use Rattle.model_delivery.specs.Calls.{Call, run, built_board}
use Rattle.model_delivery.specs.Book.{book, written}
use Rattle.model_delivery.specs.Demand2.{CallsThenIndex, CallsThenQuery, CallsThenPeel, CallsThenOwnCover, CallsThenSame, CallsThenCrowdCover, CallsThenCrowdSame, Demand2}
use Rattle.model_delivery.proofs.Latest.{AllValid}
use Rattle.model_delivery.proofs.Run.{says, laid_written, accepted_written}
use Rattle.model_delivery.proofs.Build.{table}
use Rattle.model_delivery.proofs.Demand3.{board_is_book, valid_book}

-- of those who are here the nodes count alone
cover_start : (g : Graph) (here here' : ℕ → Bool) (limit : ℕ → ℕ) (o : QueryOutcome) → ((x : ℕ) → x < nodes g → here x ≡ here' x) → IsCoverUnder g here limit o → IsCoverUnder g here' limit o
cover_start g here here' limit o same c =
    record { code = c.code; largest = largest_start g limit here here' (marked o.marks) same c.largest; operators = c.operators; rides = c.rides }

peeled_start : (g : Graph) (here here' : ℕ → Bool) (limit : ℕ → ℕ) (allowed : ℕ) (o : PeelOutcome) → ((x : ℕ) → x < nodes g → here x ≡ here' x) → IsPeeledCover g here limit allowed o → IsPeeledCover g here' limit allowed o
peeled_start g here here' limit allowed o same c =
    record { code = c.code; largest = λ e. largest_start g limit here here' (marked o.marks) same (c.largest e); steps = c.steps; settles = c.settles }

module _ (h : Head) (es : List Message) where
  abbrev board : Board
  board = written h es

  abbrev here : ℕ → Bool
  here = present (board.part Presence)

  written_index : (more : Parts) → board.part Index ≡ index_of (board_graph (extend board more))
  unfolding written
  written_index more = index_words h (says h es) more

  written_own_index : board.part Index ≡ index_of (board_graph board)
  unfolding written
  written_own_index = written_index (λ p. []) ∙ ap index_of (graph_extend h (says h es) (λ p. []))

  module _ (few : h.operators ≤ 200) (few' : h.rides ≤ 60) (α β : ℕ) (marks : List ℕ) (long : mark_places h ≤ length marks) where
    written_query : (more more' : List ℕ) → IsCore (board_graph board) here α β (board_query board.head (board.part Index ++ more) (board.part Presence ++ more') α β marks)
    unfolding written
    written_query more more' =
        let behind : Parts = parts [] [] [] [] more [] [] more' in
        let lent : Board = extend board behind in
        let c = index_then_query board.head (listed_graph lent).cleared (lent.part Presence) more α β marks few few' (omega (arith, length-append (board.part Presence) more', laid_written h es Presence)) long in
        let d = cover_start (board_graph lent) (present (lent.part Presence)) here (limits h.operators α β) _ (present_extend h (says h es) behind) c in
        subst (λ (g : Graph). IsCore g here α β (board_query board.head (board.part Index ++ more) (lent.part Presence) α β marks)) (graph_extend h (says h es) behind)
        (subst (λ (i : List ℕ). IsCore (board_graph lent) here α β (board_query board.head (i ++ more) (lent.part Presence) α β marks)) (sym (written_index behind)) d)

    module _ (valid : AllValid h es) (more more' more'' minimums : List ℕ) (enough : h.rides ≤ length minimums) where
      abbrev limit : ℕ → ℕ
      limit = own_limits h.operators minimums α β

      written_peel : (allowed : ℕ) → ((x : ℕ) → x < mark_places h → get_or marks x 0 ≡ 1) → IsPeeledCover (board_graph board) here limit allowed (board_peel board.head (board.part Operators ++ more) (board.part Rides ++ more') (board.part Presence ++ more'') minimums marks α β allowed)
      unfolding written
      written_peel allowed ones =
          let behind : Parts = parts more more' [] [] [] [] [] more'' in
          let lent : Board = extend board behind in
          let none = peel_none lent minimums marks (accepted_written h es few few' valid behind).table enough long ones in
          let c = (peel_is_cover board.head (lent.part Operators) (lent.part Rides) (lent.part Presence) minimums marks α β allowed none ones).own in
          subst (λ (g : Graph). IsPeeledCover g here limit allowed (board_peel board.head (lent.part Operators) (lent.part Rides) (lent.part Presence) minimums marks α β allowed)) (graph_extend h (says h es) behind)
          (peeled_start (board_graph lent) (present (lent.part Presence)) here limit allowed _ (present_extend h (says h es) behind) c)

      written_own : IsCoverUnder (board_graph board) here limit (board_own_cover board.head (board.part Operators ++ more) (board.part Rides ++ more') (board.part Presence ++ more'') minimums α β marks)
      unfolding written
      written_own =
          let behind : Parts = parts more more' [] [] [] [] [] more'' in
          let lent : Board = extend board behind in
          let laws = own_cover_laws board.head (lent.part Operators) (lent.part Rides) (lent.part Presence) minimums α β marks in
          let c = laws.own (laws.number ∙ own_cover_none lent minimums marks (accepted_written h es few few' valid behind).table enough long) in
          subst (λ (g : Graph). IsCoverUnder g here limit (board_own_cover board.head (lent.part Operators) (lent.part Rides) (lent.part Presence) minimums α β marks)) (graph_extend h (says h es) behind)
          (cover_start (board_graph lent) (present (lent.part Presence)) here limit _ (present_extend h (says h es) behind) c)

      written_same : (more''' : List ℕ) → MinimumsZeroOr h.rides minimums β → board_query board.head (board.part Index ++ more''') (board.part Presence ++ more'') α β marks ≡ board_own_cover board.head (board.part Operators ++ more) (board.part Rides ++ more') (board.part Presence ++ more'') minimums α β marks
      unfolding written
      written_same more''' zero_or =
          let behind : Parts = parts more more' [] [] [] [] [] more'' in
          let lent : Board = extend board behind in
          let laws = own_cover_laws board.head (lent.part Operators) (lent.part Rides) (lent.part Presence) minimums α β marks in
          let none = laws.number ∙ own_cover_none lent minimums marks (accepted_written h es few few' valid behind).table enough long in
          ap (λ (i : List ℕ). board_query board.head (i ++ more''') (lent.part Presence) α β marks) (written_index behind) ∙ laws.as_query more''' zero_or none

pub calls_then_index : CallsThenIndex
calls_then_index b start calls e =
    subst (λ (x : Board). x.part Index ≡ index_of (board_graph x)) (sym (board_is_book b start calls e))
    (written_own_index b.head (book b.head (b.part Operators) (b.part Rides) start calls))

pub calls_then_query : CallsThenQuery
calls_then_query b start calls more more' α β marks e long =
    let t = table b start e in
    subst (λ (x : Board). IsCore (board_graph x) (present (x.part Presence)) α β (board_query x.head (x.part Index ++ more) (x.part Presence ++ more') α β marks)) (sym (board_is_book b start calls e))
    (written_query b.head (book b.head (b.part Operators) (b.part Rides) start calls) t.few_operators t.few_rides α β marks long more more')

pub calls_then_peel : CallsThenPeel
calls_then_peel b start calls more more' more'' minimums α β allowed marks e enough long ones =
    let t = table b start e in
    subst (λ (x : Board). IsPeeledCover (board_graph x) (present (x.part Presence)) (own_limits b.head.operators minimums α β) allowed (board_peel x.head (x.part Operators ++ more) (x.part Rides ++ more') (x.part Presence ++ more'') minimums marks α β allowed)) (sym (board_is_book b start calls e))
    (written_peel b.head (book b.head (b.part Operators) (b.part Rides) start calls) t.few_operators t.few_rides α β marks long (valid_book b start calls e) more more' more'' minimums enough allowed ones)

pub calls_then_own_cover : CallsThenOwnCover
calls_then_own_cover b start calls more more' more'' minimums α β marks e enough long =
    let t = table b start e in
    subst (λ (x : Board). IsCoverUnder (board_graph x) (present (x.part Presence)) (own_limits b.head.operators minimums α β) (board_own_cover x.head (x.part Operators ++ more) (x.part Rides ++ more') (x.part Presence ++ more'') minimums α β marks)) (sym (board_is_book b start calls e))
    (written_own b.head (book b.head (b.part Operators) (b.part Rides) start calls) t.few_operators t.few_rides α β marks long (valid_book b start calls e) more more' more'' minimums enough)

pub calls_then_same : CallsThenSame
calls_then_same b start calls more more' more'' more''' minimums α β marks e enough long zero_or =
    let t = table b start e in
    subst (λ (x : Board). board_query x.head (x.part Index ++ more''') (x.part Presence ++ more'') α β marks ≡ board_own_cover x.head (x.part Operators ++ more) (x.part Rides ++ more') (x.part Presence ++ more'') minimums α β marks) (sym (board_is_book b start calls e))
    (written_same b.head (book b.head (b.part Operators) (b.part Rides) start calls) t.few_operators t.few_rides α β marks long (valid_book b start calls e) more more' more'' minimums enough more''' zero_or)

-- where the look-up isn't refused, a crowd cover is the own cover for its limits
module _ (b : Board) (start : ℕ) (calls : List Call) (more more' more'' minimums : List ℕ) (t : Bands) (guests : ℕ) (marks : List ℕ) (accepted : (board_crowd_limits t guests).code ≡ 0) where
  abbrev left : Board
  left = run (built_board b start) calls

  same_own : board_crowd_cover left.head (left.part Operators ++ more) (left.part Rides ++ more') (left.part Presence ++ more'') t guests minimums marks ≡ board_own_cover left.head (left.part Operators ++ more) (left.part Rides ++ more') (left.part Presence ++ more'') minimums (board_crowd_limits t guests).alpha (board_crowd_limits t guests).beta marks
  same_own = (crowd_cover_laws left.head (left.part Operators ++ more) (left.part Rides ++ more') (left.part Presence ++ more'') t guests minimums marks).as_own accepted

pub calls_then_crowd_cover : CallsThenCrowdCover
calls_then_crowd_cover b start calls more more' more'' minimums t guests marks e enough long accepted =
    let x : Board = run (built_board b start) calls in
    let α : ℕ = (board_crowd_limits t guests).alpha in
    let β : ℕ = (board_crowd_limits t guests).beta in
    subst (IsCoverUnder (board_graph x) (present (x.part Presence)) (own_limits b.head.operators minimums α β)) (sym (same_own b start calls more more' more'' minimums t guests marks accepted))
    (calls_then_own_cover b start calls more more' more'' minimums α β marks e enough long)

pub calls_then_crowd_same : CallsThenCrowdSame
calls_then_crowd_same b start calls more more' more'' more''' minimums t guests marks e enough long accepted zero_or =
    calls_then_same b start calls more more' more'' more''' minimums (board_crowd_limits t guests).alpha (board_crowd_limits t guests).beta marks e enough long zero_or ∙
    sym (same_own b start calls more more' more'' minimums t guests marks accepted)

pub demand_2 : Demand2
demand_2 =
    record {
      cover_laws = cover_laws;
      cover_under_laws = cover_under_laws;
      level_laws = level_laws;
      peel_laws = peel_laws;
      zero_is_no_limit = zero_is_no_limit;
      presence_laws = presence_laws;
      query_is_core = query_is_core;
      own_limits_laws = own_limits_laws;
      index_then_query = index_then_query;
      build_then_query = build_then_query;
      preview_then_query = preview_then_query;
      peel_is_largest = peel_is_largest;
      peel_is_cover = peel_is_cover;
      own_cover_laws = own_cover_laws;
      crowd_limits_laws = crowd_limits_laws;
      crowd_cover_laws = crowd_cover_laws;
      calls_then_index = calls_then_index;
      calls_then_query = calls_then_query;
      calls_then_peel = calls_then_peel;
      calls_then_own_cover = calls_then_own_cover;
      calls_then_same = calls_then_same;
      calls_then_crowd_cover = calls_then_crowd_cover;
      calls_then_crowd_same = calls_then_crowd_same;
    }
