-- Laws of a node dropped: the remaining degrees without it, and the limits and marks.
use mathlib.Core.Path.{◌≡◌, refl, sym, ap, ◌∙◌, subst}
use mathlib.Core.Logic.{◌≢◌}
use mathlib.Core.Bool.{Bool, true, false}
use mathlib.Core.List.{List}
use Prim.Native.Nat.{ℕ, ◌+◌, ◌-◌, ◌*◌, ◌≤◌, ◌<◌, min}
use native.Mathlib.Nat.{zero-add}
use native.Mathlib.Omega.{arith}
use native.Mathlib.Decide.{dec_lt, ℕ_discrete}
use lib.Dec.{T}
use lib.ListN.{length, get_or, set, take, drop, length-set}
use lib.Seq.{get_or-set_same, get_or-set_other}
use Rattle.model.specs.Graph.{Graph, nodes, degree, marked}
use Rattle.model.proofs.Count.{test_false}
use Rattle.model.proofs.Peel.{marked_cleared, marked_other, degree_lost_ride, degree_lost_operator, degree_same_operator, degree_same_ride}
use Rattle.graph_tables.specs.Table.{Tables}
use Rattle.graph_tables.proofs.Held.{row_length, row_at}
use Rattle.limits.specs.Limits.{byte_limit}
use Rattle.graph_drops.specs.Drop.{Remaining, Subtracted, NodeDropped}

module _ (g : Graph) (n c : ℕ) (rows columns marks degrees : List ℕ) (t : Tables g rows columns) (o : Remaining g n c marks degrees) (x : ℕ) (m : T (marked marks x)) where
  abbrev rest : ℕ → ℕ
  rest = degree g (marked (set marks x 0))

  same : (y : ℕ) → y ≢ x → marked marks y ≡ marked (set marks x 0) y
  same y k = sym (marked_other marks x y k)

  abbrev e : n ≡ g.operators
  e = o.operators_are

  abbrev f : c ≡ g.rides
  f = o.rides_are

  left : (degrees' : List ℕ) → length degrees' ≡ length degrees → ((y : ℕ) → y < nodes g → get_or degrees' y 0 ≡ rest y) → Remaining g n c (set marks x 0) degrees'
  left degrees' l d = record { operators_are = e; rides_are = f; degrees_long = l ∙ o.degrees_long; degrees_are = d }

  -- an operator: its row is subtracted from the degrees of the rides
  module _ (h : x < n) where
    operator : x < g.operators
    operator = omega arith

    abbrev operator_row : List ℕ
    operator_row = take (x * 60 + c - x * 60) (drop (x * 60) rows)

    operator_length : length operator_row ≡ c
    operator_length = row_length g.cleared g.operators g.rides 60 rows t.by_operator x operator c f

    operator_takes : (v : ℕ) → v < c → get_or degrees (n + v) 0 ≡ rest (n + v) + get_or operator_row v 0
    operator_takes v l =
        rw e
        (omega (arith, o.degrees_are (g.operators + v) (omega arith), degree_lost_ride g (marked marks) (marked (set marks x 0)) x same m (marked_cleared marks x) operator v, row_at g.cleared g.operators g.rides 60 rows t.by_operator x operator c f v l))

    pub operator_fits : (length degrees ≡ 260) × (n + length operator_row ≤ 260) × ((v : ℕ) → v < length operator_row → get_or operator_row v 0 ≤ get_or degrees (n + v) 0)
    operator_fits = (o.degrees_long, omega (arith, operator_length, t.by_ride.wide, t.by_operator.wide), λ v l. omega (arith, operator_takes v (omega (arith, operator_length))))

    pub operator_left : (degrees' : List ℕ) → Subtracted degrees n operator_row degrees' → Remaining g n c (set marks x 0) degrees'
    operator_left degrees' z = left degrees' z.long d
      where
        d : (y : ℕ) → y < nodes g → get_or degrees' y 0 ≡ rest y
        d y l =
            elim (dec_lt y n) [
              | yes k ↦ z.below y k ∙ o.degrees_are y l ∙ degree_same_operator g (marked marks) (marked (set marks x 0)) x same operator y (omega arith)
              | no k ↦
                  (let q : n + (y - n) ≡ y = omega arith in
                  subst (λ (i : ℕ). get_or degrees' i 0 ≡ rest i) q (omega (arith, z.within (y - n) (omega (arith, operator_length)), operator_takes (y - n) (omega arith))))
            ]

  -- a ride: its row is subtracted from the degrees of the operators
  module _ (h : n ≤ x) (k : x < n + c) where
    ride : x - n < g.rides
    ride = omega arith

    abbrev ride_row : List ℕ
    ride_row = take ((x - n) * 200 + n - (x - n) * 200) (drop ((x - n) * 200) columns)

    ride_length : length ride_row ≡ n
    ride_length = row_length (λ v u. g.cleared u v) g.rides g.operators 200 columns t.by_ride (x - n) ride n e

    ride_takes : (u : ℕ) → u < n → get_or degrees (0 + u) 0 ≡ rest u + get_or ride_row u 0
    ride_takes u l =
        rw zero-add
        (omega (arith, o.degrees_are u (omega arith), degree_lost_operator g (marked marks) (marked (set marks x 0)) x same m (marked_cleared marks x) (x - n) (omega arith) ride u (omega arith), row_at (λ v u. g.cleared u v) g.rides g.operators 200 columns t.by_ride (x - n) ride n e u l))

    pub ride_fits : (length degrees ≡ 260) × (0 + length ride_row ≤ 260) × ((u : ℕ) → u < length ride_row → get_or ride_row u 0 ≤ get_or degrees (0 + u) 0)
    ride_fits = (o.degrees_long, omega (arith, ride_length, t.by_ride.wide), λ u l. omega (arith, ride_takes u (omega (arith, ride_length))))

    pub ride_left : (degrees' : List ℕ) → Subtracted degrees 0 ride_row degrees' → Remaining g n c (set marks x 0) degrees'
    ride_left degrees' z = left degrees' z.long d
      where
        d : (y : ℕ) → y < nodes g → get_or degrees' y 0 ≡ rest y
        d y l =
            elim (dec_lt y n) [
              | yes b ↦
                  rw zero-add at
                  (let q : get_or degrees' (0 + y) 0 ≡ rest y = omega (arith, z.within y (omega (arith, ride_length)), ride_takes y b) in q)
              | no b ↦
                  z.above y (omega (arith, ride_length)) ∙
                  o.degrees_are y l ∙
                  degree_same_ride g (marked marks) (marked (set marks x 0)) x same (omega arith) y (omega arith)
            ]

-- whoever is not marked has limit 0
pub byte_unmarked : (limit : ℕ → ℕ) (marks : List ℕ) (x : ℕ) → (T (marked marks x) → ⊥) → byte_limit limit marks x ≡ 0
unfolding byte_limit
byte_unmarked limit marks x n = rw (test_false (marked marks x) n, byte_limit)

-- a node whose row is subtracted: its limit and its mark are cleared
module _ (g : Graph) (limit : ℕ → ℕ) (n c : ℕ) (limits marks : List ℕ) (room : nodes g ≤ length marks) (long : length limits ≡ 260) (are : (y : ℕ) → y < nodes g → get_or limits y 0 ≡ byte_limit limit marks y) (x : ℕ) (inside : x < nodes g) (few : nodes g ≤ 260) where
  limits_left : (y : ℕ) → y < nodes g → get_or (set limits x 0) y 0 ≡ byte_limit limit (set marks x 0) y
  unfolding byte_limit
  limits_left y h =
      elim (ℕ_discrete y x) [
        | yes q ↦ (rw q (get_or-set_same limits x 0 0 (omega arith) ∙ sym (byte_unmarked limit (set marks x 0) x (marked_cleared marks x))))
        | no q ↦
            get_or-set_other limits x y 0 0 q ∙ are y h ∙
            sym (ap (λ (b : Bool). elim b [ true ↦ min (limit y) 255 | false ↦ 0 ]) (marked_other marks x y q))
      ]

  pub dropped : (degrees' : List ℕ) → Remaining g n c (set marks x 0) degrees' → NodeDropped g limit n c marks x degrees' (set limits x 0) (set marks x 0)
  dropped degrees' r =
      record {
        marks_are = refl;
        held = record { remaining = r; room = omega (arith, length-set marks x 0); limits_long = length-set limits x 0 ∙ long; limits_are = limits_left };
      }
