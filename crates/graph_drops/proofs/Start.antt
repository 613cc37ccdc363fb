-- What a peel starts from: where the nodes of each pair are marked, the degrees inside the marks are those inside everybody.
use mathlib.Core.Path.{◌≡◌, sym, ◌∙◌}
use mathlib.Core.Bool.{true}
use mathlib.Core.List.{List}
use Prim.Native.Nat.{ℕ, ◌+◌, ◌-◌, ◌≤◌, ◌<◌}
use native.Mathlib.Omega.{arith}
use native.Mathlib.Decide.{dec_lt}
use lib.Dec.{T}
use lib.ListN.{length, get_or}
use Rattle.model.specs.Graph.{Graph, nodes, degree, everybody, marked}
use Rattle.model.proofs.Count.{test_true, and_same_right, count_ext}
use Rattle.model.proofs.Peel.{degree_operator, degree_ride}
use Rattle.limits.specs.Limits.{byte_limit}
use Rattle.graph_drops.specs.Drop.{Held}

module _ (g : Graph) (marks : List ℕ) (within : (u v : ℕ) → u < g.operators → v < g.rides → T (g.cleared u v) → T (marked marks u) × T (marked marks (g.operators + v))) where
  degree_within : (x : ℕ) → x < nodes g → degree g everybody x ≡ degree g (marked marks) x
  degree_within x l =
      elim (dec_lt x g.operators) [
        | yes k ↦
            degree_operator g everybody x k ∙
            count_ext _ _ g.rides (λ v b. and_same_right (g.cleared x v) true (marked marks (g.operators + v)) (λ t. sym (test_true (marked marks (g.operators + v)) (within x v k b t).1))) ∙
            sym (degree_operator g (marked marks) x k)
        | no k ↦
            degree_ride g everybody x (omega arith) ∙
            count_ext _ _ g.operators (λ u b. and_same_right (g.cleared u (x - g.operators)) true (marked marks u) (λ t. sym (test_true (marked marks u) (within u (x - g.operators) b (omega arith) t).0))) ∙
            sym (degree_ride g (marked marks) x (omega arith))
      ]

  pub held_start : (limit : ℕ → ℕ) (n c : ℕ) (degrees limits : List ℕ) → n ≡ g.operators → c ≡ g.rides → nodes g ≤ length marks → length degrees ≡ 260 → ((x : ℕ) → x < nodes g → get_or degrees x 0 ≡ degree g everybody x) → length limits ≡ 260 → ((x : ℕ) → x < nodes g → get_or limits x 0 ≡ byte_limit limit marks x) → Held g limit n c degrees limits marks
  held_start limit n c degrees limits e f room long d long' b =
      record {
        remaining = record { operators_are = e; rides_are = f; degrees_long = long; degrees_are = λ x h. d x h ∙ degree_within x h };
        room = room;
        limits_long = long';
        limits_are = b;
      }
