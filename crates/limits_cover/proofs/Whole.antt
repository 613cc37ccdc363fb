-- The whole cover: from all ones, through rounds that drop whoever falls short, to the marks of the largest set.
use mathlib.Core.Path.{◌≡◌, sym, ap, ap₂, ◌∙◌, subst}
use mathlib.Core.List.{List, ◌++◌}
use Prim.Native.Nat.{ℕ, ◌+◌, ◌≤◌, ◌<◌}
use native.Mathlib.Omega.{arith}
use lib.Dec.{T, eqb}
use lib.ListN.{length, get_or, take, drop, take-append-drop}
use lib.Seq.{get_or-take, length-take-le}
use Rattle.model.specs.declared.Head.{Head}
use Rattle.model.specs.Graph.{Graph, nodes, everybody, Largest, marked, settled, cover_under}
use Rattle.model.specs.CoverLaws.{AllOnes}
use Rattle.model.specs.Layout.{mark_places, over}
use Rattle.model.proofs.Peel.{all_marked, settled_append, settled_meets}
use Rattle.model.proofs.Cover.{cover_under_laws}
use Rattle.arrays.specs.Filled.{filled}
use Rattle.arrays.proofs.Filled.{filled_at, filled_rest, length_filled}
use Rattle.limits.specs.Limits.{byte_limit}
use Rattle.graph_degrees.specs.Degrees.{AllDegrees}
use Rattle.graph_drops.specs.Drop.{Held}
use Rattle.graph_drops.proofs.Start.{held_start}
use Rattle.limits_cover.specs.Cover.{Shrunk, Over}

module _ (g : Graph) (limit : ℕ → ℕ) (h : Head) (rows columns operator_degrees ride_degrees : List ℕ) (o : Over g h rows columns operator_degrees ride_degrees) (old : List ℕ) (room : mark_places h ≤ length old) (ones : List ℕ) (e : ones ≡ filled 0 (mark_places h) 1 old) where
  width : mark_places h ≡ nodes g
  width = ap₂ (λ (a b : ℕ). a + b) o.operators o.rides

  ones_are : AllOnes g ones
  ones_are x l =
      ap (λ (s : List ℕ). get_or s x 0) e ∙ filled_at old 0 1 (mark_places h) (omega arith) room x (omega arith) (omega (arith, width))

  ones_rest : drop (nodes g) ones ≡ drop (nodes g) old
  ones_rest =
      ap (drop (nodes g)) e ∙
      subst (λ (k : ℕ). drop k (filled 0 (mark_places h) 1 old) ≡ drop k old) width (filled_rest old 0 1 (mark_places h) (omega arith) room)

  ones_long : length ones ≡ length old
  ones_long = ap length e ∙ length_filled old 0 1 (mark_places h) (omega arith) room

  -- the first degrees, limits and marks
  pub held_ones : (degrees limits : List ℕ) → length degrees ≡ 260 → AllDegrees g degrees → length limits ≡ 260 → ((x : ℕ) → x < mark_places h → get_or limits x 0 ≡ byte_limit limit ones x) → Held g limit h.operators h.rides degrees limits ones
  held_ones degrees limits long d long' b =
      held_start g ones
      (λ u v k l t. (all_marked g ones ones_are u (omega arith), all_marked g ones ones_are (g.operators + v) (omega arith)))
      limit
      h.operators
      h.rides
      degrees
      limits
      o.operators
      o.rides
      (omega (arith, width, ones_long))
      long
      d
      long'
      (λ x l. b x (omega (arith, width)))

  -- the last marks
  module _ (marks : List ℕ) (s : Shrunk g limit ones marks) (done : T (settled g limit marks)) (long : length marks ≡ length old) where
    abbrev front : List ℕ
    front = take (nodes g) marks

    front_long : length front ≡ nodes g
    front_long = length-take-le (nodes g) marks (omega (arith, width))

    front_at : (x : ℕ) → x < nodes g → get_or front x 0 ≡ get_or marks x 0
    front_at x l = get_or-take (nodes g) marks x 0 l

    front_settled : T (settled g limit front)
    front_settled =
        subst T
        (ap (settled g limit) (sym (take-append-drop (nodes g) marks)) ∙ settled_append g limit (drop (nodes g) marks) front (omega (arith, front_long)))
        done

    front_largest : Largest g limit everybody (marked front)
    front_largest =
        record {
          inside = λ x l t. tt;
          meets = settled_meets g limit front front_settled;
          largest = λ t i m x l k.
              subst (λ (z : ℕ). T (eqb z 1)) (sym (front_at x l)) (s.keeps t m (λ y b q. all_marked g ones ones_are y b) x l k);
        }

    front_is : front ≡ cover_under g limit
    front_is = cover_under_laws.only g limit front front_long (λ x l. omega (arith, front_at x l, s.less x, ones_are x l)) front_largest

    pub covered : marks ≡ over (cover_under g limit) old
    covered =
        sym (take-append-drop (nodes g) marks) ∙
        ap₂ (λ (a b : List ℕ). a ++ b) front_is (s.tail ∙ ones_rest ∙ ap (λ (k : ℕ). drop k old) (sym front_long ∙ ap length front_is))
