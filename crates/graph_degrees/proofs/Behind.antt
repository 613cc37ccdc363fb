-- The degrees of all nodes in one array.
use mathlib.Core.Path.{◌≡◌, ap, ◌∙◌}
use mathlib.Core.List.{List}
use Prim.Native.Nat.{ℕ, ◌+◌, ◌-◌, ◌≤◌, ◌<◌}
use native.Mathlib.Omega.{arith}
use native.Mathlib.Decide.{dec_lt}
use lib.ListN.{length, get_or, take}
use Rattle.model.specs.Graph.{Graph, degree, everybody}
use Rattle.model.proofs.Store.{first_length, first_at}
use Rattle.graph_degrees.specs.Degrees.{BothDegrees, Joined, AllDegrees}

-- joined they are the degrees of all nodes
pub all_degrees : (g : Graph) (n m : ℕ) (d d' all : List ℕ) → n ≡ g.operators → m ≡ g.rides → n ≤ 200 → m ≤ 60 → BothDegrees g d d' → Joined (take (n - 0) d) (take (m - 0) d') all → AllDegrees g all
all_degrees g n m d d' all same same' few few' both j x l =
    let fits : n ≤ length d = omega (arith, both.operators_long) in
    let fits' : m ≤ length d' = omega (arith, both.rides_long) in
    let e = first_length d n fits in
    elim (dec_lt x n) [
      | yes k ↦ j.operators x (omega (arith, e)) ∙ first_at d n fits x 0 k ∙ both.operator_degrees x (omega arith)
      | no k ↦
          (let v : ℕ = x - n in
          let b : v < m = omega arith in
          ap (λ (z : ℕ). get_or all z 0) (let q : x ≡ length (take (n - 0) d) + v = omega (arith, e) in q) ∙
          j.rides v (omega (arith, first_length d' m fits')) ∙ first_at d' m fits' v 0 b ∙ both.ride_degrees v (omega arith) ∙
          ap (degree g everybody) (let q : g.operators + v ≡ x = omega arith in q))
    ]
