-- A query: the whole outcome, from the marks of a row with the levels that it reads.
use mathlib.Core.Path.{◌≡◌, refl, sym, ap, ap₂, ◌∙◌, subst}
use mathlib.Core.Logic.{◌≢◌}
use mathlib.Core.Bool.{Bool, ◌&&◌, ◌||◌}
use mathlib.Core.List.{List}
use Prim.Native.Nat.{ℕ, zero, suc, ◌+◌, ◌-◌, ◌*◌, ◌≤◌, ◌<◌}
use native.Mathlib.Omega.{arith}
use native.Mathlib.Decide.{dec_lt}
use lib.Dec.{leb}
use lib.ListN.{length, get_or, take, drop, replicate}
use Rattle.model.specs.declared.Head.{Head}
use Rattle.model.specs.declared.Counts.{Counts}
use Rattle.model.specs.Count.{bit, count}
use Rattle.model.specs.Graph.{limits, marked, present, row_for, in_by_level}
use Rattle.model.specs.Layout.{mark_places, index_places, over}
use Rattle.model.specs.Refusal.{refused_3, query_refusal}
use Rattle.model.specs.Calls.{level_read, query_marks, counts, board_query}
use Rattle.model.specs.Outcome.{queried}
use Rattle.model.proofs.Count.{or_left, or_right, count_ext, length_values, getD_values}
use Rattle.model.proofs.Store.{part_length, part_at, getD_zeros, over_is}
use Rattle.model.proofs.Chain.{first_none, enough}
use Rattle.model.proofs.Refusal.{sizes_none}
use Rattle.model.proofs.Cover.{limits_operator, limits_ride}
use Rattle.model.proofs.Query.{level_there, level_missing, query_in, query_marked}
use Rattle.graph_tables.proofs.Place.{row_inside}
use Rattle.index_fill.proofs.Stored.{index_small}
use Rattle.query_marks.specs.Marks.{RowMarked, in_row}
use Rattle.index_members.specs.Members.{least_level}
use Rattle.index_members.proofs.Members.{least_in}

module _ (h : Head) (index presence marks : List ℕ) where
  -- a query that is refused
  pub query_refused : (α β k : ℕ) → k ≡ query_refusal h index presence marks → k ≢ 0 → queried (record { code = k; operators = 0; rides = 0 }) marks ≡ board_query h index presence α β marks
  unfolding board_query
  query_refused α β zero e n = absurd (n refl)
  query_refused α β (suc k) e n = rw (sym e, board_query)

  -- the parts are long enough where a query is not refused
  pub query_long : query_refusal h index presence marks ≡ 0 → (h.operators ≤ 200) × (h.rides ≤ 60) × (index_places h ≤ length index) × (mark_places h ≤ length presence) × (mark_places h ≤ length marks)
  unfolding query_refusal
  query_long e =
      let i : Bool = refused_3 (index_places h) index in
      let p : Bool = refused_3 (mark_places h) presence in
      let m : Bool = refused_3 (mark_places h) marks in
      let s = sizes_none h _ e in
      let n3 = first_none 2 (i || p || m) _ s.2 in (
        s.0,
        s.1,
        enough (length index) (index_places h) (λ t. n3.0 (or_left (i || p) m (or_left i p t))),
        enough (length presence) (mark_places h) (λ t. n3.0 (or_left (i || p) m (or_right i p t))),
        enough (length marks) (mark_places h) (λ t. n3.0 (or_right (i || p) m t)),
      )

-- ---- the outcome of a query that is not refused

module _ (h : Head) (index presence marks : List ℕ) (α β : ℕ) (none : query_refusal h index presence marks ≡ 0) (row : List ℕ) (wide : length row ≡ mark_places h) (levels : (x : ℕ) → x < mark_places h → get_or row x 0 ≡ level_read h index α x) (a b : ℕ) (a_is : a ≡ least_level α β) (b_is : b ≡ least_level β β) where
  abbrev n : ℕ
  n = h.operators

  -- the least level of a node's side decides as the definition does
  side : (limit least x : ℕ) → least ≡ least_level limit β → x < mark_places h → limits n α β x ≡ limit → in_row row presence least x ≡ query_in h index presence α β x
  side limit least x d l e =
      ap (λ (z : Bool). present presence x && z)
      (ap₂ leb d (levels x l) ∙
      least_in limit β (level_read h index α x) ∙
      ap (λ (z : ℕ). in_by_level z β (level_read h index α x)) (sym e))

  operator : (u : ℕ) → u < n → in_row row presence a u ≡ query_in h index presence α β u
  operator u l = side α a u a_is (omega arith) (limits_operator n α β u l)

  ride : (v : ℕ) → v < h.rides → in_row row presence b (n + v) ≡ query_in h index presence α β (n + v)
  ride v l = side β b (n + v) b_is (omega arith) (limits_ride n α β (n + v) (omega arith))

  marks_long : length (query_marks h index presence α β) ≡ mark_places h
  unfolding query_marks
  marks_long = length_values (λ (x : ℕ). bit (query_in h index presence α β x)) (mark_places h)

  marks_at : (x : ℕ) → x < mark_places h → get_or (query_marks h index presence α β) x 0 ≡ bit (query_in h index presence α β x)
  unfolding query_marks
  marks_at x l = getD_values (λ (y : ℕ). bit (query_in h index presence α β y)) (mark_places h) x 0 l

  module _ (r : Counts) (marks' : List ℕ) (m : RowMarked row n presence a b marks r marks') where
    mark_is : (x : ℕ) → x < mark_places h → get_or marks' x 0 ≡ bit (query_in h index presence α β x)
    mark_is x l =
        elim (dec_lt x n) [
          | yes k ↦ m.operator_marks x k ∙ ap bit (operator x k)
          | no k ↦
              (let v : ℕ = x - n in
              subst (λ (y : ℕ). get_or marks' y 0 ≡ bit (query_in h index presence α β y)) (let e : n + v ≡ x = omega arith in e) (m.ride_marks v (omega (arith, wide)) ∙ ap bit (ride v (omega arith))))
        ]

    left : length marks' ≡ length marks → marks' ≡ over (query_marks h index presence α β) marks
    left same =
        over_is marks' marks (query_marks h index presence α β) (omega (arith, marks_long, (query_long h index presence marks none).4))
        (λ x l. mark_is x (omega (arith, marks_long)) ∙ sym (marks_at x (omega (arith, marks_long))))
        (subst (λ (k : ℕ). drop k marks' ≡ drop k marks) (wide ∙ sym marks_long) m.tail)

    operators_are : r.operators ≡ count n (marked (query_marks h index presence α β))
    operators_are =
        m.operators ∙ count_ext (in_row row presence a) (marked (query_marks h index presence α β)) n (λ u l. operator u l ∙ sym (query_marked h index presence α β u (omega arith)))

    rides_are : r.rides ≡ count h.rides (λ v. marked (query_marks h index presence α β) (n + v))
    rides_are =
        m.rides ∙
        ap (λ (k : ℕ). count k (λ (v : ℕ). in_row row presence b (n + v))) (let e : length row - n ≡ h.rides = omega (arith, wide) in e) ∙
        count_ext (λ (v : ℕ). in_row row presence b (n + v)) (λ (v : ℕ). marked (query_marks h index presence α β) (n + v)) h.rides (λ v l. ride v l ∙ sym (query_marked h index presence α β (n + v) (omega arith)))

    answer_is : r ≡ counts h (query_marks h index presence α β)
    unfolding counts
    answer_is = λ i. record { code = m.code i; operators = operators_are i; rides = rides_are i }

    pub query_done : length marks' ≡ length marks → queried r marks' ≡ board_query h index presence α β marks
    unfolding board_query
    query_done same = rw (none, board_query) (ap₂ (λ (x : Counts) (y : List ℕ). queried x y) answer_is (left same))

-- ---- the row that is read

module _ (h : Head) (index presence marks : List ℕ) (α : ℕ) (none : query_refusal h index presence marks ≡ 0) where
  -- a row of the index, by its number
  module _ (number : ℕ) (number_is : number ≡ row_for α) (low : number ≤ h.rides) where
    abbrev at : ℕ
    at = (number - 1) * mark_places h

    pub row_end : at + mark_places h ≤ length index
    row_end = row_inside h.rides (mark_places h) (number - 1) (mark_places h) (omega arith) (omega arith) (length index) (query_long h index presence marks none).2

    -- and the products that the code makes fit a word
    pub row_start : at ≤ 15600
    row_start = omega (arith, index_small (number - 1) (mark_places h) (omega (arith, query_long h index presence marks none)) (omega (arith, query_long h index presence marks none)))

    abbrev pub index_row : List ℕ
    index_row = take (at + mark_places h - at) (drop at index)

    pub row_wide : length index_row ≡ mark_places h
    row_wide = part_length index at (mark_places h) row_end

    pub row_levels : (x : ℕ) → x < mark_places h → get_or index_row x 0 ≡ level_read h index α x
    row_levels x l = part_at index at (mark_places h) row_end x 0 l ∙ ap (λ (k : ℕ). get_or index ((k - 1) * mark_places h + x) 0) number_is ∙ sym (level_there h index α (omega arith) x)

  -- zeros, where there is no such row
  pub zeros_levels : h.rides < row_for α → (x : ℕ) → x < mark_places h → get_or (replicate (mark_places h) 0) x 0 ≡ level_read h index α x
  zeros_levels high x l = getD_zeros (mark_places h) x ∙ sym (level_missing h index α high x)
