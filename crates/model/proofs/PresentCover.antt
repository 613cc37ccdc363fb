-- The cover of those present under a limit for each node, and what a call gives that shows it or is refused.
use mathlib.Core.Path.{◌≡◌, refl, sym, ap, ◌∙◌, subst}
use mathlib.Core.Logic.{◌≢◌}
use mathlib.Core.Bool.{Bool, true, false, ◌||◌}
use mathlib.Core.List.{List}
use Prim.Native.Nat.{ℕ, zero, suc, ◌≤◌, ◌<◌}
use native.Mathlib.Omega.{arith}
use lib.Dec.{ltb}
use borrow.Author.Tests.{le-ltb}
use lib.ListN.{length, get_or, drop}
use lib.Seq.{drop_at}
use Rattle.model.specs.declared.Head.{Head}
use Rattle.model.specs.declared.Counts.{Counts}
use Rattle.model.specs.Count.{bit}
use Rattle.model.specs.Graph.{Graph, Largest, everybody, limits, marked, present, raised, cover_under, index_of}
use Rattle.model.specs.Layout.{pair_places, mark_places, listed, counting_graph}
use Rattle.model.specs.Refusal.{refused_3, table_cases, peel_cases}
use Rattle.model.specs.Calls.{QueryOutcome, query_marks, counts, shown, not_shown, present_limits, present_cover}
use Rattle.model.specs.Outcome.{queried}
use Rattle.model.specs.QueryLaws.{IsCoverUnder, Keeps}
use Rattle.model.proofs.Count.{bit_le, length_values, getD_values}
use Rattle.model.proofs.Cover.{under_length, under_bits, under_same, cover_under_laws}
use Rattle.model.proofs.Presence.{largest_inside, inside_largest}
use Rattle.model.proofs.Query.{query_in, query_is_core}
use Rattle.model.proofs.EndToEnd.{shown_under}

-- ---- the cover of those present

module _ (h : Head) (operators rides presence : List ℕ) (limit : ℕ → ℕ) where
  abbrev g : Graph
  g = counting_graph h operators rides presence

  abbrev found : List ℕ
  found = present_cover h operators rides presence limit

  pub present_cover_length : length found ≡ mark_places h
  unfolding present_cover
  present_cover_length = under_length g (present_limits h presence limit)

  pub present_cover_bits : (x : ℕ) → x < mark_places h → get_or found x 0 ≤ 1
  unfolding present_cover
  present_cover_bits = under_bits g (present_limits h presence limit)

  -- under a list of limits, of which those of nodes alone matter
  pub present_cover_under : (list : ℕ → ℕ) → ((x : ℕ) → x < mark_places h → list x ≡ present_limits h presence limit x) → cover_under g list ≡ found
  unfolding present_cover
  present_cover_under list = under_same g list (present_limits h presence limit)

  pub present_cover_largest : Largest g limit (present presence) (marked found)
  unfolding present_cover
  present_cover_largest = largest_inside g (present presence) limit everybody (marked found) (cover_under_laws.largest g (present_limits h presence limit))

-- limits that are the same for every node have the same cover
pub present_cover_same : (h : Head) (operators rides presence : List ℕ) (limit limit' : ℕ → ℕ) → ((x : ℕ) → x < mark_places h → limit x ≡ limit' x) → present_cover h operators rides presence limit ≡ present_cover h operators rides presence limit'
unfolding present_cover raised
present_cover_same h operators rides presence limit limit' same =
    under_same (counting_graph h operators rides presence) (present_limits h presence limit) (present_limits h presence limit')
    (λ x l. λ i. elim (present presence x) [ true ↦ same x l i | false ↦ suc (mark_places h) ])

-- a query for (α, β), on an index of the same pairs, marks the cover (α, β)
pub query_cover : (h : Head) (operators rides presence : List ℕ) (α β : ℕ) → query_marks h (index_of (counting_graph h operators rides presence)) presence α β ≡ present_cover h operators rides presence (limits h.operators α β)
unfolding query_marks present_cover
query_cover h operators rides presence α β =
    let g : Graph = counting_graph h operators rides presence in
    cover_under_laws.only g (present_limits h presence (limits h.operators α β)) (query_marks h (index_of g) presence α β)
    (length_values (λ (x : ℕ). bit (query_in h (index_of g) presence α β x)) (mark_places h))
    (λ x l. omega (arith, getD_values (λ (y : ℕ). bit (query_in h (index_of g) presence α β y)) (mark_places h) x 0 l, bit_le (query_in h (index_of g) presence α β x)))
    (inside_largest g (present presence) (limits h.operators α β) everybody (marked (query_marks h (index_of g) presence α β)) (query_is_core h (listed h.pairs operators rides) presence α β))

-- ---- a call that shows it, or is refused

module _ (h : Head) (operators rides presence : List ℕ) where
  abbrev before : Bool
  before = refused_3 (pair_places h) operators || refused_3 (pair_places h) rides || refused_3 (mark_places h) presence

  -- of the marks that come in the length counts alone
  pub cases_marks : (minimums marks other : List ℕ) → length other ≡ length marks → peel_cases h operators rides presence minimums other ≡ peel_cases h operators rides presence minimums marks
  cases_marks minimums marks other e = ap (λ (n : ℕ). table_cases h (before || refused_3 h.rides minimums || ltb n (mark_places h)) operators rides) e

  -- of minimums, that they are long enough
  pub cases_minimums : (minimums other marks : List ℕ) → h.rides ≤ length minimums → h.rides ≤ length other → peel_cases h operators rides presence minimums marks ≡ peel_cases h operators rides presence other marks
  cases_minimums minimums other marks long long' =
      ap (λ (b : Bool). table_cases h (before || b || refused_3 (mark_places h) marks) operators rides) (le-ltb (length minimums) h.rides long ∙ sym (le-ltb (length other) h.rides long'))

-- a call with this number and outcome: it shows this cover over the marks that came in, or is refused
pub record ShowsCover (h : Head) (operators rides presence : List ℕ) (limit : ℕ → ℕ) (marks : List ℕ) (number : ℕ) (outcome : QueryOutcome) : Type 0 where
  pub taken : number ≡ 0 → outcome ≡ shown h (present_cover h operators rides presence limit) marks
  pub refused : (k : ℕ) → number ≡ suc k → outcome ≡ not_shown (suc k) marks

module _ {h : Head} {operators rides presence : List ℕ} {limit : ℕ → ℕ} {marks : List ℕ} {number : ℕ} {outcome : QueryOutcome} (call : ShowsCover h operators rides presence limit marks number outcome) where
  abbrev cover : List ℕ
  cover = present_cover h operators rides presence limit

  pub call_code : (k : ℕ) → number ≡ k → outcome.answer.code ≡ k
  unfolding counts
  call_code zero e = ap (λ (o : QueryOutcome). o.answer.code) (call.taken e)
  call_code (suc k) e = ap (λ (o : QueryOutcome). o.answer.code) (call.refused k e)

  pub code_number : (k : ℕ) → outcome.answer.code ≡ k → number ≡ k
  code_number k e = sym (call_code number refl) ∙ e

  -- not refused, it is the largest set under these limits
  pub call_under : number ≡ 0 → IsCoverUnder (counting_graph h operators rides presence) (present presence) limit outcome
  call_under e =
      let g : Graph = counting_graph h operators rides presence in
      subst (IsCoverUnder g (present presence) limit) (sym (call.taken e))
      (shown_under h g.cleared (present presence) limit cover marks (present_cover_length h operators rides presence limit) (present_cover_largest h operators rides presence limit))

  -- with its number, a refused call leaves the marks
  pub call_not_shown : (j : ℕ) → j ≢ 0 → number ≡ j → (r : Counts) → r ≡ record { code = j; operators = 0; rides = 0 } → queried r marks ≡ outcome
  call_not_shown zero n e r is = absurd (n refl)
  call_not_shown (suc j) n e r is = ap (λ (c : Counts). queried c marks) is ∙ sym (call.refused j e)

  refused_keeps : (P : QueryOutcome → Type 0) → ((k : ℕ) → P (not_shown (suc k) marks)) → outcome.answer.code ≢ 0 → P outcome
  refused_keeps P f n = go number refl
    where
      go : (k : ℕ) → number ≡ k → P outcome
      go zero e = absurd (n (call_code 0 e))
      go (suc k) e = subst P (sym (call.refused k e)) (f k)

  past_nodes : drop (mark_places h) outcome.marks ≡ drop (mark_places h) marks
  past_nodes = go number refl
    where
      go : (k : ℕ) → number ≡ k → drop (mark_places h) outcome.marks ≡ drop (mark_places h) marks
      go zero e =
          let l = present_cover_length h operators rides presence limit in
          ap (λ (o : QueryOutcome). drop (mark_places h) o.marks) (call.taken e) ∙ drop_at cover (drop (length cover) marks) (mark_places h) l ∙ ap (λ (k : ℕ). drop k marks) l
      go (suc k) e = ap (λ (o : QueryOutcome). drop (mark_places h) o.marks) (call.refused k e)

  pub call_keeps : Keeps h marks outcome
  call_keeps =
      record {
        kept = refused_keeps (λ (o : QueryOutcome). o.marks ≡ marks) (λ k. refl);
        no_operators = refused_keeps (λ (o : QueryOutcome). o.answer.operators ≡ 0) (λ k. refl);
        no_rides = refused_keeps (λ (o : QueryOutcome). o.answer.rides ≡ 0) (λ k. refl);
        behind = past_nodes;
      }

  -- the answer follows from the number
  abbrev pub answer_by : ℕ → Counts
  answer_by zero = counts h cover
  answer_by (suc k) = record { code = suc k; operators = 0; rides = 0 }

  pub call_answer : (k : ℕ) → number ≡ k → outcome.answer ≡ answer_by k
  call_answer zero e = ap (λ (o : QueryOutcome). o.answer) (call.taken e)
  call_answer (suc k) e = ap (λ (o : QueryOutcome). o.answer) (call.refused k e)

-- two calls with the same number, and where it is 0 with the same limit for every node, give the same
pub calls_same : {h : Head} {operators rides presence : List ℕ} {limit limit' : ℕ → ℕ} {marks : List ℕ} {number number' : ℕ} {outcome outcome' : QueryOutcome} → ShowsCover h operators rides presence limit marks number outcome → ShowsCover h operators rides presence limit' marks number' outcome' → number ≡ number' → (number ≡ 0 → (x : ℕ) → x < mark_places h → limit x ≡ limit' x) → outcome ≡ outcome'
calls_same {h} {operators} {rides} {presence} {limit} {limit'} {marks} {number} {number'} {outcome} {outcome'} call other e same = go number refl
  where
    go : (k : ℕ) → number ≡ k → outcome ≡ outcome'
    go zero z =
        call.taken z ∙
        ap (λ (s : List ℕ). shown h s marks) (present_cover_same h operators rides presence limit limit' (same z)) ∙
        sym (other.taken (sym e ∙ z))
    go (suc k) z = call.refused k z ∙ sym (other.refused k (sym e ∙ z))
