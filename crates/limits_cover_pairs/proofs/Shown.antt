-- The cover of those present, shown over the marks that came in.
use mathlib.Core.Path.{◌≡◌, ap, ◌∙◌}
use mathlib.Core.List.{List}
use Prim.Native.Nat.{ℕ, ◌≤◌, ◌<◌}
use native.Mathlib.Omega.{arith}
use lib.ListN.{length, get_or, drop, length-append, get_or-append}
use Rattle.model.specs.declared.Head.{Head}
use Rattle.model.specs.declared.Counts.{Counts}
use Rattle.model.specs.Graph.{cover_under}
use Rattle.model.specs.Layout.{mark_places, over, counting_graph}
use Rattle.model.specs.Calls.{counts, shown, present_limits, present_cover}
use Rattle.model.specs.Outcome.{queried}
use Rattle.model.proofs.EndToEnd.{counts_over}
use Rattle.model.proofs.PresentCover.{present_cover_length, present_cover_bits, present_cover_under}

-- what is left: the cover under a list of limits, which are these, raised for those who are off or out
module _ (h : Head) (operators rides presence : List ℕ) (limit list : ℕ → ℕ) (same : (x : ℕ) → x < mark_places h → list x ≡ present_limits h presence limit x) (marks left : List ℕ) (is : left ≡ over (cover_under (counting_graph h operators rides presence) list) marks) where
  abbrev found : List ℕ
  found = present_cover h operators rides presence limit

  long : length found ≡ mark_places h
  long = present_cover_length h operators rides presence limit

  left_is : left ≡ over found marks
  left_is = is ∙ ap (λ (s : List ℕ). over s marks) (present_cover_under h operators rides presence limit list same)

  left_long : mark_places h ≤ length left
  left_long = omega (arith, ap length left_is, length-append found (drop (length found) marks), long)

  left_bits : (x : ℕ) → x < mark_places h → get_or left x 0 ≤ 1
  left_bits x l =
      omega (
        arith,
        ap (λ (s : List ℕ). get_or s x 0) left_is,
        get_or-append found (drop (length found) marks) 0 x (omega (arith, long)),
        present_cover_bits h operators rides presence limit x l,
      )

  pub left_counted : (mark_places h ≤ length left) × ((x : ℕ) → x < mark_places h → get_or left x 0 ≤ 1)
  left_counted = (left_long, left_bits)

  pub left_shown : (r : Counts) → r ≡ counts h left → queried r left ≡ shown h found marks
  left_shown r e =
      let c = e ∙ ap (counts h) left_is ∙ counts_over h found marks long in
      λ i. record { answer = c i; marks = left_is i }
