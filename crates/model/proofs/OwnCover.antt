-- The cover with minimums: its number, that it is the largest set under its limits, and what it is where all minimums are one.
use mathlib.Core.Path.{◌≡◌, refl, sym, ap, ◌∙◌}
use mathlib.Core.Bool.{true, false}
use mathlib.Core.List.{List, [], ◌++◌}
use Prim.Native.Nat.{ℕ, ◌+◌, ◌-◌, ◌≤◌, ◌<◌}
use native.Mathlib.Omega.{arith}
use lib.Dec.{eqb}
use lib.ListN.{length, get_or, length-append, get_or-append}
use Rattle.model.specs.declared.Head.{Head}
use Rattle.model.specs.Graph.{Graph, limits, ride_limit, own_limits, marked, present, index_of}
use Rattle.model.specs.Layout.{mark_places, listed, counting_graph}
use Rattle.model.specs.Refusal.{first_number, peel_refusal, own_cover_refusal}
use Rattle.model.specs.Calls.{QueryOutcome, shown, board_query, board_peel, board_own_cover}
use Rattle.model.specs.CoverLaws.{AllOnes}
use Rattle.model.specs.QueryLaws.{IsCoverUnder, IsCore}
use Rattle.model.specs.MinimumLaws.{OwnLimitsLaws, MinimumsZeroOr, OwnCoverLaws}
use Rattle.model.proofs.Cover.{ride_none, ride_own, ride_zero_or, own_operator, own_ride, limits_rides, own_one, own_core}
use Rattle.model.proofs.Peel.{peel_laws}
use Rattle.model.proofs.Refusal.{peel_lent}
use Rattle.model.proofs.EndToEnd.{query_shown, peel_is_cover}
use Rattle.model.proofs.PresentCover.{present_cover_same, query_cover, cases_marks, cases_minimums, ShowsCover, call_code, code_number, call_under, call_keeps, call_answer, calls_same}

-- ---- the limits

at_ride : (n : ℕ) (minimums : List ℕ) (α β v : ℕ) → own_limits n minimums α β (n + v) ≡ ride_limit minimums β v
at_ride n minimums α β v = own_ride n minimums α β (n + v) (omega arith) ∙ ap (ride_limit minimums β) (let e : n + v - n ≡ v = omega arith in e)

-- words behind the rides' minimums change no limit
pub behind_limits : (n m : ℕ) (minimums more : List ℕ) (α β : ℕ) → m ≤ length minimums → (x : ℕ) → x < n + m → own_limits n (minimums ++ more) α β x ≡ own_limits n minimums α β x
unfolding own_limits
behind_limits n m minimums more α β long =
    limits_rides n m α (ride_limit (minimums ++ more) β) (ride_limit minimums β) (λ v l. ap (λ (k : ℕ). elim (eqb k 0) [ true ↦ β | false ↦ k ]) (get_or-append minimums more 0 v (omega arith)))

pub own_limits_laws : (minimums : List ℕ) (α β : ℕ) → OwnLimitsLaws minimums α β
own_limits_laws minimums α β =
    record {
      operator = λ n. own_operator n minimums α β;
      own = λ n v e. at_ride n minimums α β v ∙ ride_own minimums β v (get_or minimums v 0) (omega arith) refl;
      none = λ n v e. at_ride n minimums α β v ∙ ride_none minimums β v e;
      behind = λ n m more. behind_limits n m minimums more α β;
      all_equal = λ g m l all. own_core g minimums α β m (λ v k. ride_own minimums β v m l (all v k));
      all_zero = λ g all. own_core g minimums α β β (λ v k. ride_none minimums β v (all v k));
    }

-- ---- the call

module _ (h : Head) (operators rides presence minimums : List ℕ) (α β : ℕ) (marks : List ℕ) where
  abbrev number : ℕ
  number = own_cover_refusal h operators rides presence minimums marks

  abbrev outcome : QueryOutcome
  outcome = board_own_cover h operators rides presence minimums α β marks

  abbrev limit : ℕ → ℕ
  limit = own_limits h.operators minimums α β

  abbrev g : Graph
  g = counting_graph h operators rides presence

  pub own_call : ShowsCover h operators rides presence limit marks number outcome
  unfolding board_own_cover
  own_call = record { taken = λ e. rw (e, board_own_cover); refused = λ k e. rw (e, board_own_cover) }

  pub own_code : (k : ℕ) → number ≡ k → outcome.answer.code ≡ k
  own_code = call_code own_call

  number_of : outcome.answer.code ≡ 0 → number ≡ 0
  number_of = code_number own_call 0

  under : outcome.answer.code ≡ 0 → IsCoverUnder g (present presence) limit outcome
  under e = call_under own_call (number_of e)

  -- where every ride has the limit b, it is the core for (α, b)
  one_core : (b : ℕ) → ((v : ℕ) → v < h.rides → ride_limit minimums β v ≡ b) → outcome.answer.code ≡ 0 → IsCore g (present presence) α b outcome
  one_core b one e =
      let c = under e in
      record { code = c.code; largest = (own_core g minimums α β b one (present presence) (marked outcome.marks)).0 c.largest; operators = c.operators; rides = c.rides }

  peeled_same : (start : List ℕ) (allowed : ℕ) → outcome.answer.code ≡ 0 → peel_refusal h operators rides presence minimums start ≡ 0 → AllOnes g start → (board_peel h operators rides presence minimums start α β allowed).answer.settled ≡ 1 → (x : ℕ) → x < mark_places h → marked (board_peel h operators rides presence minimums start α β allowed).marks x ≡ marked outcome.marks x
  peeled_same start allowed e none ones done =
      let p = (peel_is_cover h operators rides presence minimums start α β allowed none ones).own in
      peel_laws.only g limit (present presence) (marked (board_peel h operators rides presence minimums start α β allowed).marks) (marked outcome.marks) (p.largest done) (under e).largest

  queried_same : (more : List ℕ) → MinimumsZeroOr h.rides minimums β → outcome.answer.code ≡ 0 → board_query h (index_of g ++ more) presence α β marks ≡ outcome
  unfolding own_cover_refusal
  queried_same more zero_or e =
      let lent = (peel_lent h operators rides presence minimums marks [] (number_of e)).0 in
      query_shown h (listed h.pairs operators rides) presence more α β marks lent.table.few_operators lent.table.few_rides lent.presence_long lent.marks_long ∙
      ap (λ (s : List ℕ). shown h s marks) (query_cover h operators rides presence α β ∙ sym (present_cover_same h operators rides presence limit (limits h.operators α β) (own_one h.operators h.rides minimums α β β (λ v l. ride_zero_or minimums β v (zero_or v l))))) ∙
      sym (own_call.taken (number_of e))

-- words behind the rides' minimums change nothing
behind_same : (h : Head) (operators rides presence minimums : List ℕ) (α β : ℕ) (marks more : List ℕ) → h.rides ≤ length minimums → board_own_cover h operators rides presence (minimums ++ more) α β marks ≡ board_own_cover h operators rides presence minimums α β marks
unfolding own_cover_refusal
behind_same h operators rides presence minimums α β marks more long =
    calls_same (own_call h operators rides presence (minimums ++ more) α β marks) (own_call h operators rides presence minimums α β marks)
    (ap first_number (cases_minimums h operators rides presence (minimums ++ more) minimums marks (omega (arith, length-append minimums more)) long))
    (λ z. behind_limits h.operators h.rides minimums more α β long)

number_length : (h : Head) (operators rides presence minimums marks other : List ℕ) → length other ≡ length marks → own_cover_refusal h operators rides presence minimums other ≡ own_cover_refusal h operators rides presence minimums marks
unfolding own_cover_refusal
number_length h operators rides presence minimums marks other e =
    ap first_number (cases_marks h operators rides presence minimums marks other e)

any_marks : (h : Head) (operators rides presence minimums : List ℕ) (α β : ℕ) (marks other : List ℕ) → length other ≡ length marks → (board_own_cover h operators rides presence minimums α β other).answer ≡ (board_own_cover h operators rides presence minimums α β marks).answer
any_marks h operators rides presence minimums α β marks other e =
    let call = own_call h operators rides presence minimums α β in
    call_answer (call other) _ (number_length h operators rides presence minimums marks other e) ∙ sym (call_answer (call marks) _ refl)

pub own_cover_laws : (h : Head) (operators rides presence minimums : List ℕ) (α β : ℕ) (marks : List ℕ) → OwnCoverLaws h operators rides presence minimums α β marks
unfolding own_cover_refusal
own_cover_laws h operators rides presence minimums α β marks =
    record {
      number = own_code h operators rides presence minimums α β marks _ refl;
      own = under h operators rides presence minimums α β marks;
      as_peel = peeled_same h operators rides presence minimums α β marks;
      all_equal = λ m l all. one_core h operators rides presence minimums α β marks m (λ v k. ride_own minimums β v m l (all v k));
      all_zero = λ all. one_core h operators rides presence minimums α β marks β (λ v k. ride_none minimums β v (all v k));
      zero_or = λ each. one_core h operators rides presence minimums α β marks β (λ v k. ride_zero_or minimums β v (each v k));
      as_query = queried_same h operators rides presence minimums α β marks;
      keeps = call_keeps (own_call h operators rides presence minimums α β marks);
      any_answer = any_marks h operators rides presence minimums α β marks;
      any_behind = behind_same h operators rides presence minimums α β marks;
    }
