-- The pairs between nodes that are present and marked: what a peel of them starts from, and that it is the peel of all pairs that count.
use mathlib.Core.Path.{◌≡◌, refl, ap, ap₂, ◌∙◌}
use mathlib.Core.Bool.{Bool, ◌&&◌, and-true}
use mathlib.Core.List.{List}
use Prim.Native.Nat.{ℕ, ◌+◌, ◌≤◌, ◌<◌}
use lib.Dec.{T}
use lib.ListN.{length}
use Rattle.model.specs.declared.Head.{Head}
use Rattle.model.specs.Graph.{Graph, marked, present}
use Rattle.model.specs.Layout.{counting_graph, listed, mark_places}
use Rattle.model.specs.Calls.{peeled}
use Rattle.model.proofs.Count.{test_true, and_left, and_right}
use Rattle.graph_degrees.specs.Degrees.{BothDegrees, first_pairs}
use Rattle.peel_pairs.specs.Peel.{Ready}
use Rattle.peel_pairs.proofs.Same.{peeled_same}

module _ (h : Head) (operators rides presence marks : List ℕ) where
  abbrev here : ℕ → Bool
  here x = present presence x && marked marks x

  abbrev between : Graph
  between = first_pairs h operators rides here h.pairs

  here_marked : (x : ℕ) → T (here x) → T (marked marks x)
  here_marked x = and_right (present presence x) (marked marks x)

  pub marked_ready : mark_places h ≤ length marks → (d d' : List ℕ) → BothDegrees between d d' → Ready between h d d' marks
  marked_ready room d d' degrees =
      record {
        operators = refl;
        rides = refl;
        degrees = degrees;
        room = room;
        within = λ u v k l t.
            let b = and_right (listed h.pairs operators rides u v) (here u && here (h.operators + v)) t in
            (here_marked u (and_left (here u) (here (h.operators + v)) b), here_marked (h.operators + v) (and_right (here u) (here (h.operators + v)) b));
      }

  pub marked_peeled : (limit limit' : ℕ → ℕ) → ((x : ℕ) → x < mark_places h → limit x ≡ limit' x) → (allowed : ℕ) → peeled between limit allowed marks ≡ peeled (counting_graph h operators rides presence) limit' allowed marks
  marked_peeled limit limit' same =
      peeled_same between (counting_graph h operators rides presence).cleared limit limit' marks same
      (λ u v k l m n. ap₂ (λ (a b : Bool). listed h.pairs operators rides u v && (a && b)) (met u m) (met (h.operators + v) n))
    where
      met : (x : ℕ) → T (marked marks x) → here x ≡ present presence x
      met x m = ap (λ (z : Bool). present presence x && z) (test_true (marked marks x) m) ∙ and-true (present presence x)
