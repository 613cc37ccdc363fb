-- The cover with minimums: refused, or found.
use mathlib.Core.Path.{◌≡◌, sym, ◌∙◌, subst}
use mathlib.Core.Logic.{◌≢◌}
use mathlib.Core.List.{List, []}
use Prim.Native.Nat.{ℕ, ◌≤◌}
use lib.ListN.{length}
use Rattle.model.specs.declared.Head.{Head}
use Rattle.model.specs.declared.Counts.{Counts}
use Rattle.model.specs.Graph.{own_limits}
use Rattle.model.specs.Layout.{mark_places}
use Rattle.model.specs.Refusal.{first_number, peel_cases, own_cover_refusal}
use Rattle.model.specs.Calls.{QueryOutcome, shown, present_cover, board_own_cover}
use Rattle.model.specs.Outcome.{queried}
use Rattle.model.proofs.PresentCover.{call_not_shown}
use Rattle.model.proofs.OwnCover.{own_call}
use Rattle.refusal_peel.proofs.Chain.{lent_accepted}

-- `check_lent` gives k
module _ (h : Head) (operators rides presence minimums : List ℕ) (marks : List ℕ) (k : ℕ) (lent : k ≡ first_number (peel_cases h operators rides presence minimums marks)) where
  the_number : own_cover_refusal h operators rides presence minimums marks ≡ k
  unfolding own_cover_refusal
  the_number = sym lent

  pub long : k ≡ 0 → (h' : Head) → h' ≡ h → (mark_places h' ≤ length presence) × (h'.rides ≤ length minimums) × (mark_places h' ≤ length marks)
  long z h' same =
      let l = lent_accepted h operators rides presence minimums marks [] (sym lent ∙ z) in
      subst (λ (x : Head). (mark_places x ≤ length presence) × (x.rides ≤ length minimums) × (mark_places x ≤ length marks)) (sym same) (l.1, l.2, l.3)

  module _ (α β : ℕ) where
    abbrev outcome : QueryOutcome
    outcome = board_own_cover h operators rides presence minimums α β marks

    pub refused : k ≢ 0 → (r : Counts) → r ≡ record { code = k; operators = 0; rides = 0 } → queried r marks ≡ outcome
    refused n = call_not_shown (own_call h operators rides presence minimums α β marks) k n the_number

    -- the table that is accepted is the one that was lent
    pub found : k ≡ 0 → (h' : Head) (operators' rides' : List ℕ) → (h' ≡ h) × (operators' ≡ operators) × (rides' ≡ rides) → (o : QueryOutcome) → o ≡ shown h' (present_cover h' operators' rides' presence (own_limits h'.operators minimums α β)) marks → o ≡ outcome
    found z h' operators' rides' same o is =
        let e : shown h' (present_cover h' operators' rides' presence (own_limits h'.operators minimums α β)) marks ≡ shown h (present_cover h operators rides presence (own_limits h.operators minimums α β)) marks = cc (same.0, same.1, same.2) in
        is ∙ e ∙ sym ((own_call h operators rides presence minimums α β marks).taken (the_number ∙ z))
