-- A peel: refused, or the whole outcome.
use mathlib.Core.Path.{◌≡◌, refl, sym, ap₂, subst}
use mathlib.Core.Logic.{◌≢◌}
use mathlib.Core.List.{List, [], ◌∷◌}
use Prim.Native.Nat.{ℕ, zero, suc, ◌≤◌}
use lib.ListN.{length}
use Rattle.model.specs.declared.Head.{Head}
use Rattle.model.specs.declared.Peeled.{Peeled}
use Rattle.model.specs.Layout.{mark_places, counting_graph}
use Rattle.model.specs.Refusal.{refused_12, peel_refusal}
use Rattle.model.specs.Calls.{PeelOutcome, peeled, peel_limits, board_peel}
use Rattle.pairs.specs.Accepted.{AcceptedPairs}
use Rattle.peel_pairs.specs.Peel.{Gives}
use Rattle.refusal_peel.proofs.Chain.{lent_accepted}
use Rattle.model.specs.Outcome.{peel_left}

module _ (h : Head) (operators rides presence minimums marks : List ℕ) where
  -- a peel that is refused
  pub peel_refused : (α β steps k : ℕ) → k ≡ peel_refusal h operators rides presence minimums marks → k ≢ 0 → peel_left (record { code = k; settled = 0; steps = 0 }) marks ≡ board_peel h operators rides presence minimums marks α β steps
  unfolding board_peel
  peel_refused α β steps zero e n = absurd (n refl)
  peel_refused α β steps (suc k) e n = rw (sym e, board_peel)

  module _ (none : peel_refusal h operators rides presence minimums marks ≡ 0) where
    -- the table that is accepted is the one that was lent
    pub peel_done : (α β steps : ℕ) (h' : Head) (operators' rides' : List ℕ) → (h' ≡ h) × (operators' ≡ operators) × (rides' ≡ rides) → (r : Peeled) (marks' : List ℕ) → Gives (peeled (counting_graph h' operators' rides' presence) (peel_limits h' presence minimums α β) steps marks) r marks' → peel_left r marks' ≡ board_peel h operators rides presence minimums marks α β steps
    unfolding board_peel
    peel_done α β steps h' operators' rides' same r marks' g =
        let e : peeled (counting_graph h' operators' rides' presence) (peel_limits h' presence minimums α β) steps marks ≡ peeled (counting_graph h operators rides presence) (peel_limits h presence minimums α β) steps marks = cc (same.0, same.1, same.2) in
        let g' = subst (λ (p : PeelOutcome). Gives p r marks') e g in
        rw (none, board_peel) (ap₂ (λ (x : Peeled) (y : List ℕ). peel_left x y) g'.answer g'.marks)

    -- what the numbers that don't apply say
    accepted : AcceptedPairs h operators rides × (mark_places h ≤ length presence) × (h.rides ≤ length minimums) × (mark_places h ≤ length marks)
    unfolding peel_refusal
    accepted = lent_accepted h operators rides presence minimums marks ((12, refused_12 h marks) ∷ []) none

    pub peel_long : (h' : Head) → h' ≡ h → (mark_places h' ≤ length presence) × (h'.rides ≤ length minimums) × (mark_places h' ≤ length marks)
    peel_long h' same =
        subst (λ (x : Head). (mark_places x ≤ length presence) × (x.rides ≤ length minimums) × (mark_places x ≤ length marks)) (sym same)
        (accepted.1, accepted.2, accepted.3)
