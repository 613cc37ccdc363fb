-- The cover for a guest count: refused by the board's checks, refused by the table, or found.
use mathlib.Core.Path.{◌≡◌, sym, ap, ap₂, ◌∙◌, subst}
use mathlib.Core.Logic.{◌≢◌}
use mathlib.Core.List.{List, []}
use Prim.Native.Nat.{ℕ, ◌≤◌}
use lib.ListN.{length}
use Rattle.model.specs.declared.Head.{Head}
use Rattle.model.specs.declared.Counts.{Counts}
use Rattle.model.specs.declared.Bands.{Bands}
use Rattle.model.specs.declared.CrowdLimits.{CrowdLimits}
use Rattle.model.specs.Graph.{own_limits}
use Rattle.model.specs.Layout.{mark_places}
use Rattle.model.specs.Refusal.{first_number, peel_cases}
use Rattle.model.specs.Calls.{QueryOutcome, shown, present_cover}
use Rattle.model.specs.Crowd.{board_crowd_limits, crowd_cover_refusal, board_crowd_cover}
use Rattle.model.specs.Outcome.{queried}
use Rattle.model.proofs.CrowdTable.{limits_taken, code_refusal}
use Rattle.model.proofs.PresentCover.{call_not_shown}
use Rattle.model.proofs.CrowdCover.{crowd_call, number_front, number_behind}
use Rattle.refusal_peel.proofs.Chain.{lent_accepted}

-- `check_lent` gives k
module _ (h : Head) (operators rides presence : List ℕ) (t : Bands) (guests : ℕ) (minimums marks : List ℕ) (k : ℕ) (lent : k ≡ first_number (peel_cases h operators rides presence minimums marks)) where
  abbrev number : ℕ
  number = crowd_cover_refusal h operators rides presence t guests minimums marks

  abbrev outcome : QueryOutcome
  outcome = board_crowd_cover h operators rides presence t guests minimums marks

  refused : (j : ℕ) → j ≢ 0 → number ≡ j → (r : Counts) → r ≡ record { code = j; operators = 0; rides = 0 } → queried r marks ≡ outcome
  refused = call_not_shown (crowd_call h operators rides presence t guests minimums marks)

  pub refused_board : k ≢ 0 → (r : Counts) → r ≡ record { code = k; operators = 0; rides = 0 } → queried r marks ≡ outcome
  refused_board n = refused k n (number_front h operators rides presence t guests minimums marks (λ z. n (lent ∙ z)) ∙ sym lent)

  module _ (z : k ≡ 0) where
    -- the table that is accepted is the one that was lent
    pub long : (h' : Head) → h' ≡ h → (mark_places h' ≤ length presence) × (h'.rides ≤ length minimums) × (mark_places h' ≤ length marks)
    long h' same =
        let l = lent_accepted h operators rides presence minimums marks [] (sym lent ∙ z) in
        subst (λ (x : Head). (mark_places x ≤ length presence) × (x.rides ≤ length minimums) × (mark_places x ≤ length marks)) (sym same) (l.1, l.2, l.3)

    -- the look-up finds n, α and β
    module _ (n α β : ℕ) (looked : record { code = n; alpha = α; beta = β } ≡ board_crowd_limits t guests) where
      the_number : number ≡ n
      the_number = number_behind h operators rides presence t guests minimums marks (sym lent ∙ z) ∙ code_refusal t guests n (sym (ap (λ (l : CrowdLimits). l.code) looked))

      pub refused_bands : n ≢ 0 → (r : Counts) → r ≡ record { code = n; operators = 0; rides = 0 } → queried r marks ≡ outcome
      refused_bands w = refused n w the_number

      pub found : n ≡ 0 → (h' : Head) (operators' rides' : List ℕ) → (h' ≡ h) × (operators' ≡ operators) × (rides' ≡ rides) → (o : QueryOutcome) → o ≡ shown h' (present_cover h' operators' rides' presence (own_limits h'.operators minimums α β)) marks → o ≡ outcome
      found e h' operators' rides' same o is =
          let l = looked ∙ limits_taken t guests (code_refusal t guests 0 (sym (ap (λ (l : CrowdLimits). l.code) looked) ∙ e)) in
          let one : shown h' (present_cover h' operators' rides' presence (own_limits h'.operators minimums α β)) marks ≡ shown h (present_cover h operators rides presence (own_limits h.operators minimums α β)) marks = cc (same.0, same.1, same.2) in
          is ∙ one ∙
          ap₂ (λ (α β : ℕ). shown h (present_cover h operators rides presence (own_limits h.operators minimums α β)) marks) (ap (λ (x : CrowdLimits). x.alpha) l) (ap (λ (x : CrowdLimits). x.beta) l) ∙
          sym ((crowd_call h operators rides presence t guests minimums marks).taken (the_number ∙ e))
