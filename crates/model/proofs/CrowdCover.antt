-- The cover for a guest count: its number, that it is the own cover for the limits of its band, and what it is where no minimum differs from the
-- band's β.
use mathlib.Core.Path.{◌≡◌, refl, sym, ap, ◌∙◌, subst}
use mathlib.Core.Logic.{◌≢◌}
use mathlib.Core.Bool.{Bool}
use mathlib.Core.List.{List, ◌++◌}
use Prim.Native.Nat.{ℕ, ◌≤◌, ◌<◌}
use native.Mathlib.Omega.{arith}
use native.Mathlib.Decide.{ℕ_discrete}
use lib.ListN.{length, length-append}
use Rattle.model.specs.declared.Head.{Head}
use Rattle.model.specs.declared.Bands.{Bands}
use Rattle.model.specs.declared.CrowdLimits.{CrowdLimits}
use Rattle.model.specs.Graph.{Graph, own_limits, present, index_of}
use Rattle.model.specs.Layout.{mark_places, counting_graph}
use Rattle.model.specs.Refusal.{first_number, peel_cases, own_cover_refusal}
use Rattle.model.specs.Calls.{QueryOutcome, board_query, board_own_cover}
use Rattle.model.specs.Crowd.{crowd_cases, crowd_refusal, band_for, board_crowd_limits, band_limits, crowd_cover_refusal, board_crowd_cover}
use Rattle.model.specs.QueryLaws.{IsCoverUnder, IsCore}
use Rattle.model.specs.MinimumLaws.{MinimumsAll, MinimumsZeroOr}
use Rattle.model.specs.CrowdLaws.{CrowdCoverLaws}
use Rattle.model.proofs.Chain.{Positive, first_front, first_behind, first_split}
use Rattle.model.proofs.Cover.{ride_none, ride_zero_or, own_one}
use Rattle.model.proofs.CrowdTable.{limits_code, limits_taken, code_refusal}
use Rattle.model.proofs.PresentCover.{cases_marks, cases_minimums, ShowsCover, call_code, code_number, call_keeps, call_answer, calls_same}
use Rattle.model.proofs.OwnCover.{behind_limits, own_call, own_cover_laws}

-- every number of 1 to 5 is positive
positive_cases : (h : Head) (operators rides presence minimums marks : List ℕ) → Positive (peel_cases h operators rides presence minimums marks)
positive_cases h operators rides presence minimums marks = (omega arith, (omega arith, (omega arith, (omega arith, (omega arith, tt)))))

module _ (h : Head) (operators rides presence : List ℕ) (t : Bands) (guests : ℕ) (minimums marks : List ℕ) where
  abbrev number : ℕ
  number = crowd_cover_refusal h operators rides presence t guests minimums marks

  abbrev outcome : QueryOutcome
  outcome = board_crowd_cover h operators rides presence t guests minimums marks

  abbrev cases : List (ℕ × Bool)
  cases = peel_cases h operators rides presence minimums marks

  pub crowd_call : ShowsCover h operators rides presence (band_limits h t guests minimums) marks number outcome
  unfolding board_crowd_cover
  crowd_call = record { taken = λ e. rw (e, board_crowd_cover); refused = λ k e. rw (e, board_crowd_cover) }

  pub crowd_code : (k : ℕ) → number ≡ k → outcome.answer.code ≡ k
  crowd_code = call_code crowd_call

  pub number_front : first_number cases ≢ 0 → number ≡ first_number cases
  unfolding crowd_cover_refusal
  number_front = first_front (crowd_cases t guests) cases (positive_cases h operators rides presence minimums marks)

  pub number_behind : first_number cases ≡ 0 → number ≡ crowd_refusal t guests
  unfolding crowd_cover_refusal crowd_refusal
  number_behind = first_behind (crowd_cases t guests) cases (positive_cases h operators rides presence minimums marks)

  number_split : number ≡ 0 → (first_number cases ≡ 0) × (crowd_refusal t guests ≡ 0)
  unfolding crowd_cover_refusal crowd_refusal
  number_split = first_split (crowd_cases t guests) cases (positive_cases h operators rides presence minimums marks)

  abbrev α : ℕ
  α = (board_crowd_limits t guests).alpha

  abbrev β : ℕ
  β = (board_crowd_limits t guests).beta

  abbrev own : ℕ → ℕ → QueryOutcome
  own a b = board_own_cover h operators rides presence minimums a b marks

  -- where the look-up isn't refused, the own cover for the limits of the band, which are those of the look-up
  as_own : crowd_refusal t guests ≡ 0 → outcome ≡ own α β
  unfolding own_cover_refusal
  as_own e =
      calls_same crowd_call (own_call h operators rides presence minimums (band_for t guests).alpha (band_for t guests).beta marks)
      (elim (ℕ_discrete (first_number cases) 0) [ yes z ↦ number_behind z ∙ e ∙ sym z | no n ↦ number_front n ])
      (λ z x l. refl) ∙
      sym (ap (λ (l : CrowdLimits). own l.alpha l.beta) (limits_taken t guests e))

  -- what holds of that one where it isn't refused holds of the cover for a guest count
  from_own : (P : QueryOutcome → Type 0) → ((own α β).answer.code ≡ 0 → P (own α β)) → outcome.answer.code ≡ 0 → P outcome
  from_own P p e =
      let same = as_own (number_split (code_number crowd_call 0 e)).1 in
      subst P (sym same) (p (ap (λ (o : QueryOutcome). o.answer.code) (sym same) ∙ e))

module _ (h : Head) (operators rides presence : List ℕ) (t : Bands) (guests : ℕ) where
  abbrev covered : List ℕ → List ℕ → QueryOutcome
  covered minimums marks = board_crowd_cover h operators rides presence t guests minimums marks

  -- two lists that are long enough and give every node the same limit
  lists_same : (minimums other marks : List ℕ) → h.rides ≤ length minimums → h.rides ≤ length other → (crowd_cover_refusal h operators rides presence t guests minimums marks ≡ 0 → (x : ℕ) → x < mark_places h → band_limits h t guests minimums x ≡ band_limits h t guests other x) → covered minimums marks ≡ covered other marks
  unfolding crowd_cover_refusal
  lists_same minimums other marks long long' =
      calls_same (crowd_call h operators rides presence t guests minimums marks) (crowd_call h operators rides presence t guests other marks)
      (ap (λ (cs : List (ℕ × Bool)). first_number (cs ++ crowd_cases t guests)) (cases_minimums h operators rides presence minimums other marks long long'))

  behind_same : (minimums more marks : List ℕ) → h.rides ≤ length minimums → covered (minimums ++ more) marks ≡ covered minimums marks
  behind_same minimums more marks long =
      lists_same (minimums ++ more) minimums marks (omega (arith, length-append minimums more)) long
      (λ e. behind_limits h.operators h.rides minimums more (band_for t guests).alpha (band_for t guests).beta long)

  -- minimums that are each 0 or the band's β, beside zeros
  zeros_same : (minimums zeros marks : List ℕ) → MinimumsAll h.rides zeros 0 → h.rides ≤ length zeros → h.rides ≤ length minimums → ((covered minimums marks).answer.code ≡ 0 → MinimumsZeroOr h.rides minimums (board_crowd_limits t guests).beta) → covered minimums marks ≡ covered zeros marks
  zeros_same minimums zeros marks none long long' zero_or =
      lists_same minimums zeros marks long' long (λ z x l.
      let b : ℕ = (band_for t guests).beta in
      let each = subst (λ (k : CrowdLimits). MinimumsZeroOr h.rides minimums k.beta) (limits_taken t guests (number_split h operators rides presence t guests minimums marks z).1) (zero_or (crowd_code h operators rides presence t guests minimums marks 0 z)) in
      own_one h.operators h.rides minimums (band_for t guests).alpha b b (λ v k. ride_zero_or minimums b v (each v k)) x l ∙
      sym (own_one h.operators h.rides zeros (band_for t guests).alpha b b (λ v k. ride_none zeros b v (none v k)) x l))

  number_length : (minimums marks other : List ℕ) → length other ≡ length marks → crowd_cover_refusal h operators rides presence t guests minimums other ≡ crowd_cover_refusal h operators rides presence t guests minimums marks
  unfolding crowd_cover_refusal
  number_length minimums marks other e =
      ap (λ (cs : List (ℕ × Bool)). first_number (cs ++ crowd_cases t guests)) (cases_marks h operators rides presence minimums marks other e)

  any_marks : (minimums marks other : List ℕ) → length other ≡ length marks → (covered minimums other).answer ≡ (covered minimums marks).answer
  any_marks minimums marks other e =
      let call = crowd_call h operators rides presence t guests minimums in
      call_answer (call other) _ (number_length minimums marks other e) ∙ sym (call_answer (call marks) _ refl)

pub crowd_cover_laws : (h : Head) (operators rides presence : List ℕ) (t : Bands) (guests : ℕ) (minimums marks : List ℕ) → CrowdCoverLaws h operators rides presence t guests minimums marks
crowd_cover_laws h operators rides presence t guests minimums marks =
    let g : Graph = counting_graph h operators rides presence in
    let α : ℕ = (board_crowd_limits t guests).alpha in
    let β : ℕ = (board_crowd_limits t guests).beta in
    let laws = own_cover_laws h operators rides presence minimums α β marks in
    let from = from_own h operators rides presence t guests minimums marks in
    record {
      board_first = λ n. crowd_code h operators rides presence t guests minimums marks _ (number_front h operators rides presence t guests minimums marks n);
      then_bands = λ e. crowd_code h operators rides presence t guests minimums marks _ (number_behind h operators rides presence t guests minimums marks e) ∙ sym (limits_code t guests _ refl);
      as_own = λ e. as_own h operators rides presence t guests minimums marks (code_refusal t guests 0 e);
      own = from (IsCoverUnder g (present presence) (own_limits h.operators minimums α β)) laws.own;
      unchanged = λ zeros. zeros_same h operators rides presence t guests minimums zeros marks;
      core = λ zero_or. from (IsCore g (present presence) α β) (laws.zero_or zero_or);
      as_query = λ more zero_or. from (λ o. board_query h (index_of g ++ more) presence α β marks ≡ o) (laws.as_query more zero_or);
      keeps = call_keeps (crowd_call h operators rides presence t guests minimums marks);
      any_answer = any_marks h operators rides presence t guests minimums marks;
      any_behind = λ more. behind_same h operators rides presence t guests minimums more marks;
    }
