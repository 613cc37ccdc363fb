-- The numbers of a peel or a cover, test by test: 3, and 12 behind those of a pair table.
use mathlib.Core.Path.{◌≡◌, sym, ap, ◌∙◌}
use mathlib.Core.Logic.{◌≢◌}
use mathlib.Core.Bool.{Bool, true, false}
use mathlib.Core.List.{List, [], ◌∷◌, ◌++◌}
use Prim.Native.Nat.{ℕ, ◌≤◌, ◌<◌}
use lib.Dec.{ltb, lt→ltb}
use lib.ListN.{length, get_or}
use Rattle.model.specs.declared.Head.{Head}
use Rattle.model.specs.Layout.{mark_places}
use Rattle.model.specs.Refusal.{refused_12, first_number, peel_short, peel_cases, peel_refusal}
use Rattle.model.proofs.Search.{some_true, some_false}
use Rattle.model.proofs.Chain.{last_here, last_skip, not_less}
use Rattle.model.proofs.Refusal.{peel_lent}
use Rattle.pairs.specs.Accepted.{AcceptedPairs}
use Rattle.refusal_table.proofs.Chain.{table_first, table_rest, table_accepted}

-- what a peel or a cover is lent, where 1 to 5 don't apply
pub lent_accepted : (h : Head) (operators rides presence minimums marks : List ℕ) (cs : List (ℕ × Bool)) → first_number (peel_cases h operators rides presence minimums marks ++ cs) ≡ 0 → AcceptedPairs h operators rides × (mark_places h ≤ length presence) × (h.rides ≤ length minimums) × (mark_places h ≤ length marks)
lent_accepted h operators rides presence minimums marks cs e =
    let l = (peel_lent h operators rides presence minimums marks cs e).0 in
    (table_accepted h _ operators rides l.table l.operators_long l.rides_long, l.presence_long, l.minimums_long, l.marks_long)

module _ (h : Head) (operators rides presence minimums marks : List ℕ) where
  -- what `check_lent` gives
  module _ (k : ℕ) (table : k ≡ first_number (peel_cases h operators rides presence minimums marks)) where
    abbrev behind : List (ℕ × Bool)
    behind = (12, refused_12 h marks) ∷ []

    pub peel_table : k ≢ 0 → k ≡ peel_refusal h operators rides presence minimums marks
    unfolding peel_refusal
    peel_table n = table_first h (peel_short h operators rides presence minimums marks) operators rides behind k table n

    module _ (z : k ≡ 0) where
      last : first_number behind ≡ peel_refusal h operators rides presence minimums marks
      unfolding peel_refusal
      last = table_rest h (peel_short h operators rides presence minimums marks) operators rides behind k table z

      pub peel_12 : refused_12 h marks ≡ true → 12 ≡ peel_refusal h operators rides presence minimums marks
      peel_12 b = last_here 12 (refused_12 h marks) b ∙ last

      pub peel_0 : refused_12 h marks ≡ false → 0 ≡ peel_refusal h operators rides presence minimums marks
      peel_0 b = last_skip 12 (refused_12 h marks) b ∙ last

      -- the marks are long enough
      pub marks_long : mark_places h ≤ length marks
      marks_long = (lent_accepted h operators rides presence minimums marks [] (sym table ∙ z)).3

-- ---- 12

module _ (h : Head) (marks : List ℕ) where
  pub bad_mark : (i : ℕ) → i < mark_places h → 1 < get_or marks i 0 → true ≡ refused_12 h marks
  unfolding refused_12
  bad_mark i k l = some_true (λ x. ltb 1 (get_or marks x 0)) (mark_places h) i k (lt→ltb 1 (get_or marks i 0) l)

  pub good_marks : ((i : ℕ) → i < mark_places h → get_or marks i 0 ≤ 1) → false ≡ refused_12 h marks
  unfolding refused_12
  good_marks f = some_false (λ x. ltb 1 (get_or marks x 0)) (mark_places h) (λ i k. not_less 1 (get_or marks i 0) (f i k))
