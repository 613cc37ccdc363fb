-- Demand 2 of the calls: a query on the index of any clearances that count, and a peel, give the (α, β)-core of Definition 2.1 of those present.
--
use mathlib.Core.Path.{◌≡◌, refl, sym, ap, ◌∙◌, subst}
use mathlib.Core.Bool.{Bool, true, false, ◌&&◌, ◌||◌}
use mathlib.Core.List.{List, [], ◌∷◌, ◌++◌}
use Prim.Native.Nat.{ℕ, suc, ◌+◌, ◌-◌, ◌*◌, ◌≤◌, ◌<◌}
use native.Mathlib.Omega.{arith}
use native.Mathlib.Decide.{dec_le}
use native.Mathlib.Nat.{suc-mul, mul-le-mul_right}
use lib.Dec.{T, ltb, eqb, ltb→lt, T_not}
use lib.ListN.{length, get_or, drop, length-append, get_or-append}
use Rattle.model.specs.declared.Head.{Head}
use Rattle.model.specs.declared.Counts.{Counts}
use Rattle.model.specs.Count.{bit, values}
use Rattle.model.specs.Graph.{Graph, nodes, Largest, limits, ride_limit, own_limits, marked, present, counting, settled, peel, level, row_for, in_by_level, index_of}
use Rattle.model.specs.Layout.{Operators, Rides, Index, Presence, Board, mark_places, index_places, over, sized, counting_graph, listed_graph, board_graph}
use Rattle.model.specs.Contents.{Pair, Operator, Ride, Entry, gives, Contents, counted, node_slot, words}
use Rattle.model.specs.Refusal.{refused_1, refused_2, refused_3, refused_12, first_number, peel_short, peel_cases, build_refusal, query_refusal, peel_refusal}
use Rattle.model.specs.Calls.{start_contents, built, board_build, level_read, query_marks, counts, shown, board_query, peel_limits, peeled, board_peel}
use Rattle.model.specs.CoverLaws.{AllOnes}
use Rattle.model.specs.PeelLaws.{IsPeeled, PeelIsLargest, IsPeeledCover, IsPeeledCore}
use Rattle.model.specs.QueryLaws.{IsCoverUnder, IsCore, IndexThenQuery, BuildThenQuery}
use Rattle.model.specs.MinimumLaws.{PeelIsCover}
use Rattle.model.proofs.Count.{test_true, test_false, bit_test, bit_zero, and_true, or_cases, count_le, count_ext, some_witness, length_values, getD_values, values_ext, length_rows}
use Rattle.model.proofs.Cover.{ride_none, ride_own, own_core}
use Rattle.model.proofs.Peel.{all_marked, peel_laws}
use Rattle.model.proofs.Level.{index_same}
use Rattle.model.proofs.Presence.{largest_inside, all_count, core_all, largest_start}
use Rattle.model.proofs.Query.{largest_ext, level_there, level_missing, query_in, query_is_core}
use Rattle.model.proofs.Chain.{first_nil, first_skip, not_less}
use Rattle.model.proofs.Refusal.{AcceptedTable, parts_long, table_skip, build_none}

-- ---- what a build leaves

module _ (g : Graph) (start : ℕ) where
  -- what the build says
  abbrev pub started : Contents
  started = start_contents g start

  -- all pairs count
  pub all_counted : (u v : ℕ) → g.cleared u v ≡ counted started u v
  all_counted u v = sym (and_true (gives (started (Pair u v))) ∙ bit_test (g.cleared u v))

  -- everybody is on and in, never heard of
  pub node_started : (h : Head) (x : ℕ) → started (node_slot h x) ≡ record { stamp = 0; revision = 0; word = 1 }
  node_started h x = go (ltb x h.operators)
    where
      go : (t : Bool) → started (elim t [ true ↦ Operator x | false ↦ Ride (x - h.operators) ]) ≡ record { stamp = 0; revision = 0; word = 1 }
      go true = refl
      go false = refl

module _ (b : Board) (start : ℕ) (none : build_refusal b start ≡ 0) where
  abbrev says : Contents
  says = started (listed_graph b) start

  built_index : (board_build b start).board.part Index ≡ over (index_of (listed_graph b)) (b.part Index)
  unfolding board_build built words
  built_index = rw (none, board_build) (ap (λ (i : List ℕ). over i (b.part Index)) (index_same (listed_graph b) (counted says) (λ u v p q. all_counted (listed_graph b) start u v)))

  abbrev presence : List ℕ
  presence = (board_build b start).board.part Presence

  -- the words of operators and rides
  abbrev ones : List ℕ
  ones = values (mark_places b.head) (λ x. (says (node_slot b.head x)).word)

  ones_long : length ones ≡ mark_places b.head
  ones_long = length_values (λ x. (says (node_slot b.head x)).word) (mark_places b.head)

  built_words : (board_build b start).board.part Presence ≡ over ones (b.part Presence)
  unfolding board_build built words
  built_words = rw (none, board_build)

  -- everybody is on and in
  built_present : (x : ℕ) → x < mark_places b.head → T (present presence x)
  built_present x l =
      subst (λ (k : ℕ). T (eqb k 1))
      (sym (ap (λ (p : List ℕ). get_or p x 0) built_words ∙ get_or-append ones (drop (length ones) (b.part Presence)) 0 x (omega (arith, ones_long)) ∙ getD_values (λ y. (says (node_slot b.head y)).word) (mark_places b.head) x 0 l ∙ ap (λ (e : Entry). e.word) (node_started (listed_graph b) start b.head x)))
      tt

  presence_long : mark_places b.head ≤ length presence
  presence_long = omega (arith, ap length built_words, length-append ones (drop (length ones) (b.part Presence)), ones_long)

-- ---- query

-- the lent marks show what was set
module _ (h : Head) (new marks : List ℕ) (long : length new ≡ mark_places h) where
  pub marked_over : (x : ℕ) → x < mark_places h → marked new x ≡ marked (over new marks) x
  marked_over x l = ap (λ (z : ℕ). eqb z 1) (sym (get_or-append new (drop (length new) marks) 0 x (omega (arith, long))))

  pub counts_over : counts h (over new marks) ≡ counts h new
  unfolding counts
  counts_over =
      let of_operators = count_ext (marked (over new marks)) (marked new) h.operators (λ x l. sym (marked_over x (omega arith))) in
      let of_rides = count_ext (λ (v : ℕ). marked (over new marks) (h.operators + v)) (λ (v : ℕ). marked new (h.operators + v)) h.rides (λ v l. sym (marked_over (h.operators + v) (omega arith))) in
      λ i. record { code = 0; operators = of_operators i; rides = of_rides i }

-- the largest set under limits, shown over the marks that came in, with its sizes
pub shown_under : (h : Head) (c : ℕ → ℕ → Bool) (here : ℕ → Bool) (limit : ℕ → ℕ) (new marks : List ℕ) → length new ≡ mark_places h → Largest (sized h c) limit here (marked new) → IsCoverUnder (sized h c) here limit (shown h new marks)
unfolding counts
shown_under h c here limit new marks long largest =
    record {
      code = refl;
      largest = largest_ext (sized h c) limit here (marked new) (marked (over new marks)) (marked_over h new marks long) largest;
      operators = sym (ap (λ (c : Counts). c.operators) (counts_over h new marks long));
      rides = sym (ap (λ (c : Counts). c.rides) (counts_over h new marks long));
    }

marks_long : (h : Head) (index presence : List ℕ) (α β : ℕ) → length (query_marks h index presence α β) ≡ mark_places h
unfolding query_marks
marks_long h index presence α β = length_values (λ (x : ℕ). bit (query_in h index presence α β x)) (mark_places h)

length_index : (g : Graph) → length (index_of g) ≡ g.rides * nodes g
unfolding index_of
length_index g = length_rows (nodes g) (λ (a x : ℕ). level g (suc a) x) g.rides

module _ (h : Head) (d : ℕ → ℕ → Bool) (presence more : List ℕ) (α β : ℕ) (marks : List ℕ) (few : h.operators ≤ 200) (few' : h.rides ≤ 60) (here_long : mark_places h ≤ length presence) (long : mark_places h ≤ length marks) where
  abbrev here : ℕ → Bool
  here = present presence

  abbrev g : Graph
  g = counting (sized h d) here

  abbrev index : List ℕ
  index = index_of g ++ more

  index_long : index_places h ≤ length index
  index_long = omega (arith, length-append (index_of g) more, length_index g)

  -- none of the query's numbers applies
  query_none : query_refusal h index presence marks ≡ 0
  unfolding query_refusal
  query_none =
      let i : Bool = refused_3 (index_places h) index in
      let p : Bool = refused_3 (mark_places h) presence in
      let m : Bool = refused_3 (mark_places h) marks in
      first_skip 1 (refused_1 h) _ (not_less 200 h.operators few) ∙
      first_skip 2 (refused_2 h) _ (not_less 60 h.rides few') ∙
      first_skip 3 (i || p || m) _ (λ s. or_cases (i || p) m s (λ t. or_cases i p t (not_less (length index) (index_places h) index_long) (not_less (length presence) (mark_places h) here_long)) (not_less (length marks) (mark_places h) long)) ∙
      first_nil

  -- a row of the index lies inside its first words
  word : (x : ℕ) → x < mark_places h → level_read h index α x ≡ level_read h (index_of g) α x
  word x l =
      elim (dec_le (row_for α) h.rides) [
        | yes k ↦
            level_there h index α k x ∙
            get_or-append (index_of g) more 0 ((row_for α - 1) * mark_places h + x) (omega (arith, length_index g, suc-mul (row_for α - 1) (mark_places h), mul-le-mul_right (mark_places h) (let q : suc (row_for α - 1) ≤ h.rides = omega arith in q))) ∙
            sym (level_there h (index_of g) α k x)
        | no k ↦ level_missing h index α (omega arith) x ∙ sym (level_missing h (index_of g) α (omega arith) x)
      ]

  same_marks : query_marks h index presence α β ≡ query_marks h (index_of g) presence α β
  unfolding query_marks
  same_marks =
      values_ext (λ (x : ℕ). bit (query_in h index presence α β x)) (λ (x : ℕ). bit (query_in h (index_of g) presence α β x)) (mark_places h)
      (λ x l. ap (λ (z : ℕ). bit (here x && in_by_level (limits h.operators α β x) β z)) (word x l))

  -- the call shows what a query of the index alone marks
  pub query_shown : board_query h index presence α β marks ≡ shown h (query_marks h (index_of g) presence α β) marks
  unfolding board_query
  query_shown = rw (query_none, board_query) (ap (λ (s : List ℕ). shown h s marks) same_marks)

  outcome : IsCore g here α β (board_query h index presence α β marks)
  outcome =
      subst (IsCore g here α β) (sym query_shown)
      (shown_under h g.cleared here (limits h.operators α β) (query_marks h (index_of g) presence α β) marks (marks_long h (index_of g) presence α β) (query_is_core h d presence α β))

pub index_then_query : IndexThenQuery
index_then_query h d presence more α β marks few few' here_long long = outcome h d presence more α β marks few few' here_long long

pub build_then_query : BuildThenQuery
build_then_query b start α β marks none long =
    let t = (build_none b start none).0 in
    let g : Graph = listed_graph b in
    let here : ℕ → Bool = present (presence b start none) in
    let all = built_present b start none in
    let more : List ℕ = drop (length (index_of g)) (b.part Index) in
    let same : index_of (counting g here) ≡ index_of g = index_same g (counting g here).cleared (λ u v p q. sym (all_count g here all u v p q)) in
    let o = outcome b.head g.cleared (presence b start none) more α β marks t.few_operators t.few_rides (presence_long b start none) long in
    let c = subst (λ (i : List ℕ). IsCore (counting g here) here α β (board_query b.head i (presence b start none) α β marks)) (ap (λ (i : List ℕ). i ++ more) same ∙ sym (built_index b start none)) o in
    record { code = c.code; largest = core_all g here all α β _ c.largest; operators = c.operators; rides = c.rides }

-- ---- peel

-- on a board to which 1 to 5 do not apply, none of them applies to what is lent to a peel or a cover, and the numbers behind them decide, where
-- its minimums and marks are long enough
peel_skip : (b : Board) (minimums marks : List ℕ) (cs : List (ℕ × Bool)) → AcceptedTable b → b.head.rides ≤ length minimums → mark_places b.head ≤ length marks → first_number (peel_cases b.head (b.part Operators) (b.part Rides) (b.part Presence) minimums marks ++ cs) ≡ first_number cs
peel_skip b minimums marks cs t enough long =
    table_skip b (peel_short b.head (b.part Operators) (b.part Rides) (b.part Presence) minimums marks) cs t
    (parts_long b.head (b.part Operators) (b.part Rides) (b.part Presence) minimums marks (t.long Operators) (t.long Rides) (t.long Presence) enough long)

pub own_cover_none : (b : Board) (minimums marks : List ℕ) → AcceptedTable b → b.head.rides ≤ length minimums → mark_places b.head ≤ length marks → first_number (peel_cases b.head (b.part Operators) (b.part Rides) (b.part Presence) minimums marks) ≡ 0
own_cover_none b minimums marks t enough long = peel_skip b minimums marks [] t enough long ∙ first_nil

-- and from all ones none of the peel's numbers applies
pub peel_none : (b : Board) (minimums marks : List ℕ) → AcceptedTable b → b.head.rides ≤ length minimums → mark_places b.head ≤ length marks → AllOnes (board_graph b) marks → peel_refusal b.head (b.part Operators) (b.part Rides) (b.part Presence) minimums marks ≡ 0
unfolding peel_refusal refused_12
peel_none b minimums marks t enough long ones =
    let h : Head = b.head in
    let unknown : T (refused_12 h marks) → ⊥ = λ s. let w = some_witness (λ (x : ℕ). ltb 1 (get_or marks x 0)) (mark_places h) s in omega (arith, ltb→lt 1 (get_or marks w.0 0) w.2, ones w.0 w.1) in
    peel_skip b minimums marks ((12, refused_12 h marks) ∷ []) t enough long ∙
    first_skip 12 (refused_12 h marks) [] unknown ∙
    first_nil

module _ (h : Head) (operators rides presence minimums marks : List ℕ) (α β allowed : ℕ) (none : peel_refusal h operators rides presence minimums marks ≡ 0) where
  abbrev pairs : Graph
  pairs = counting_graph h operators rides presence

  abbrev plain : ℕ → ℕ
  plain = own_limits h.operators minimums α β

  abbrev limit : ℕ → ℕ
  limit = peel_limits h presence minimums α β

  abbrev start : ℕ → Bool
  start x = marked marks x && present presence x

  abbrev left : List ℕ
  left = peel pairs limit allowed marks

  abbrev done : Bool
  done = settled pairs limit left

  peeled_largest : bit done ≡ 1 → Largest pairs plain start (marked left)
  peeled_largest e =
      largest_inside pairs (present presence) plain (marked marks) (marked left)
      (peel_laws.largest pairs limit allowed marks (subst T (bit_test done) (subst (λ (z : ℕ). T (eqb z 1)) (sym e) tt)))

  is_peeled : IsPeeled pairs (present presence) plain allowed start (board_peel h operators rides presence minimums marks α β allowed)
  unfolding board_peel peeled
  is_peeled =
      let u = peel_laws.unsettled pairs limit allowed marks in
      rw (none, board_peel)
      (record {
        code = refl;
        largest = peeled_largest;
        only = λ e s l. peel_laws.only pairs plain start s (marked left) l (peeled_largest e);
        unsettled = (λ e. u.0 (bit_zero done e), λ w. ap bit (test_false done (T_not done (u.1 w))));
      })

  all_peeled : AllOnes pairs marks → IsPeeledCover pairs (present presence) plain allowed (board_peel h operators rides presence minimums marks α β allowed)
  unfolding board_peel peeled
  all_peeled ones =
      rw (none, board_peel)
      (record {
        code = refl;
        largest = λ e. largest_start pairs plain start (present presence) (marked left) (λ x l. ap (λ (z : Bool). z && present presence x) (test_true (marked marks x) (all_marked pairs marks ones x l))) (peeled_largest e);
        steps = peel_laws.steps_from_all pairs limit allowed marks ones;
        settles = λ l. ap bit (test_true done (peel_laws.settles pairs limit allowed marks (omega (arith, count_le (marked marks) (nodes pairs)))));
      })

  -- where every ride has the limit b, they are those of (α, b)
  one_peeled : (b : ℕ) → ((v : ℕ) → v < h.rides → ride_limit minimums β v ≡ b) → AllOnes pairs marks → IsPeeledCore pairs (present presence) α b allowed (board_peel h operators rides presence minimums marks α β allowed)
  one_peeled b one ones =
      let c = all_peeled ones in
      record {
        code = c.code;
        largest = λ e. (own_core pairs minimums α β b one (present presence) (marked (board_peel h operators rides presence minimums marks α β allowed).marks)).0 (c.largest e);
        steps = c.steps;
        settles = c.settles;
      }

pub peel_is_largest : PeelIsLargest
peel_is_largest = is_peeled

pub peel_is_cover : (h : Head) (operators rides presence minimums marks : List ℕ) (α β allowed : ℕ) → peel_refusal h operators rides presence minimums marks ≡ 0 → AllOnes (counting_graph h operators rides presence) marks → PeelIsCover h operators rides presence minimums marks α β allowed
peel_is_cover h operators rides presence minimums marks α β allowed none ones =
    record {
      own = all_peeled h operators rides presence minimums marks α β allowed none ones;
      all_equal = λ m l all. one_peeled h operators rides presence minimums marks α β allowed none m (λ v k. ride_own minimums β v m l (all v k)) ones;
      all_zero = λ all. one_peeled h operators rides presence minimums marks α β allowed none β (λ v k. ride_none minimums β v (all v k)) ones;
    }
