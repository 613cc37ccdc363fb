-- The stamps of a build: first all zeroed, then those of the listed pairs set.
use mathlib.Core.Path.{◌≡◌, refl, ◌∙◌}
use mathlib.Core.Bool.{Bool, true, false}
use mathlib.Core.List.{List}
use Prim.Native.Nat.{ℕ, ◌≤◌}
use native.Mathlib.Omega.{arith}
use lib.ListN.{length, drop}
use Rattle.model.specs.declared.Head.{Head}
use Rattle.model.specs.Layout.{pair_places, over, listed, graph}
use Rattle.model.proofs.Pairs.{rows_over}
use Rattle.part_stamps.specs.Stamps.{Stamped, stamp_of, start_stamps}

module _ (h : Head) (operators rides : List ℕ) (start : ℕ) (old zeroed stamps : List ℕ) (long : pair_places h ≤ length old) (same : length stamps ≡ length old) (rest : drop (pair_places h) zeroed ≡ drop (pair_places h) old) (stamped : Stamped (listed h.pairs operators rides) h.operators h.rides start zeroed stamps) where
  abbrev n : ℕ
  n = h.operators

  abbrev m : ℕ
  m = h.rides

  abbrev f : ℕ → ℕ → ℕ
  f u v = elim (listed h.pairs operators rides u v) [ true ↦ start | false ↦ 0 ]

  stamp_is : (c : Bool) → stamp_of start c ≡ elim c [ true ↦ start | false ↦ 0 ]
  stamp_is true = refl
  stamp_is false = refl

  pub stamps_filled : stamps ≡ over (start_stamps (graph h operators rides) start) old
  unfolding start_stamps
  stamps_filled =
      rows_over n m f stamps old (omega (arith, long, same))
      (λ u v k l. stamped.stamps u v k l ∙ stamp_is (listed h.pairs operators rides u v))
      (stamped.tail ∙ rest)
