-- A board copied part by part.
use mathlib.Core.Path.{◌≡◌, sym, ap, ◌∙◌}
use mathlib.Core.Bool.{false}
use mathlib.Core.List.{◌++◌}
use Prim.Native.Nat.{ℕ}
use lib.ListN.{take, drop}
use lib.Seq.{length-take-le}
use Rattle.model.specs.Layout.{Part, Operators, Rides, Stamps, Revisions, Index, PresenceStamps, PresenceRevisions, Presence, Parts, Board, places, of_parts, over, copied}
use Rattle.model.specs.Refusal.{board_short}
use Rattle.model.proofs.Parts.{by_part, not_short}

module _ (b : Board) (enough : board_short b ≡ false) (spare left : Parts) where
  -- the part's words to its length, and past them the spare memory's own
  abbrev Laid : Part → Type 0
  Laid p = left p ≡ take (places b.head p) (b.part p) ++ drop (places b.head p) (spare p)

  pub all_copied : Laid Operators → Laid Rides → Laid Stamps → Laid Revisions → Laid Index → Laid PresenceStamps → Laid PresenceRevisions → Laid Presence → of_parts b.head left ≡ copied b spare
  unfolding copied
  all_copied o r s v i t c w =
      let each : (p : Part) → left p ≡ over (take (places b.head p) (b.part p)) (spare p) = λ p. by_part Laid o r s v i t c w p ∙ ap (λ (k : ℕ). take (places b.head p) (b.part p) ++ drop k (spare p)) (sym (length-take-le (places b.head p) (b.part p) (not_short b enough p))) in
      λ j. record { head = b.head; part = λ p. each p j }
