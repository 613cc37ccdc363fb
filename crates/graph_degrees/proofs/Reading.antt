-- The reading of a pair table, place by place: from no pairs to one pair more, and what rows start from.
use mathlib.Core.Path.{◌≡◌, refl, sym, ap, ap₂, ◌∙◌, subst}
use mathlib.Core.Bool.{Bool, false, ◌&&◌}
use mathlib.Core.List.{List}
use Prim.Native.Nat.{ℕ, ◌+◌, ◌*◌, ◌≤◌, ◌<◌}
use native.Mathlib.Omega.{arith}
use lib.Dec.{T, eqb}
use lib.ListN.{get_or, set, replicate, length-set}
use Rattle.model.specs.declared.Head.{Head}
use Rattle.model.specs.Count.{bit}
use Rattle.model.specs.Graph.{Graph}
use Rattle.model.specs.Layout.{listed}
use Rattle.model.proofs.Count.{bit_test, test_ext, count_ext, count_le, count_zero}
use Rattle.model.proofs.Pairs.{listed_place, place_listed}
use Rattle.model.proofs.Store.{getD_zeros}
use Rattle.pairs.specs.Accepted.{AcceptedPairs}
use Rattle.pairs.proofs.Order.{accepted_range}
use Rattle.pairs.proofs.Place.{held}
use Rattle.graph_tables.specs.Table.{Tables, ZeroTables, table_graph}
use Rattle.graph_tables.proofs.Place.{table_stored, listed_none}
use Rattle.graph_tables.proofs.Held.{tables_held, joined_cleared}
use Rattle.graph_degrees.specs.Degrees.{BothDegrees, ReadUpTo, Tabulated, first_pairs}
use Rattle.graph_degrees.proofs.Counted.{passed, counts_next, degree_row, degree_column}

-- the pair (u, v) is listed whichever array comes first
listed_swap : (k : ℕ) (operators rides : List ℕ) (u v : ℕ) → listed k rides operators v u ≡ listed k operators rides u v
listed_swap k operators rides u v =
    test_ext (listed k rides operators v u) (listed k operators rides u v)
    (λ t. let w = listed_place k rides operators v u t in place_listed k operators rides u v w.0 w.1 w.3 w.2)
    (λ t. let w = listed_place k operators rides u v t in place_listed k rides operators v u w.0 w.1 w.3 w.2)

-- the test of two bytes is that of their nodes
pub tested : (a b : Bool) (x y : ℕ) → x ≡ bit a → y ≡ bit b → bit (eqb x 1 && eqb y 1) ≡ bit (a && b)
tested a b x y e f = ap₂ (λ (p q : Bool). bit (p && q)) (ap (λ (z : ℕ). eqb z 1) e ∙ bit_test a) (ap (λ (z : ℕ). eqb z 1) f ∙ bit_test b)

module _ (h : Head) (operators rides : List ℕ) (accepted : AcceptedPairs h operators rides) (on : ℕ → Bool) where
  abbrev test : ℕ → ℕ → Bool
  test u v = on u && on (h.operators + v)

  abbrev g : ℕ → Graph
  g k = first_pairs h operators rides on k

  -- a pair seen from its ride
  swapped : (k u v : ℕ) → passed (λ v u. test u v) rides operators k v u ≡ passed test operators rides k u v
  swapped k u v = ap (λ (z : Bool). z && test u v) (listed_swap k operators rides u v)

  -- before the first place: tables of zeros and degrees of 0
  pub read_none : (t t' : List ℕ) → ZeroTables t t' → ReadUpTo 0 h operators rides on t t' (replicate 200 0) (replicate 60 0)
  read_none t t' zeros =
      record {
        tables = record {
          by_operator = record {
            wide = accepted.few_rides;
            size = omega (arith, accepted.few_operators, zeros.by_operator_long);
            bits = λ u v l k. zeros.by_operator (u * 60 + v) ∙ sym (ap bit (none u v));
          };
          by_ride = record {
            wide = accepted.few_operators;
            size = omega (arith, accepted.few_rides, zeros.by_ride_long);
            bits = λ v u k l. zeros.by_ride (v * 200 + u) ∙ sym (ap bit (none u v));
          };
        };
        degrees = record {
          operators_long = refl;
          rides_long = refl;
          operator_degrees = λ u l. getD_zeros 200 u ∙ sym (degree_row (g 0) u l ∙ count_zero (λ v. (g 0).cleared u v) h.rides (λ v k. subst T (none u v)));
          ride_degrees = λ v l. getD_zeros 60 v ∙ sym (degree_column (g 0) v ∙ count_zero (λ u. (g 0).cleared u v) h.operators (λ u k. subst T (none u v)));
        };
      }
    where
      none : (u v : ℕ) → (g 0).cleared u v ≡ false
      none u v = ap (λ (z : Bool). z && test u v) (listed_none operators rides u v)

  -- one place more
  module _ (k : ℕ) (l : k < h.pairs) (t t' d d' : List ℕ) (upto : ReadUpTo k h operators rides on t t' d d') where
    abbrev u : ℕ
    u = get_or operators k 0

    abbrev v : ℕ
    v = get_or rides k 0

    in_range : (u < h.operators) × (v < h.rides)
    in_range = accepted_range h operators rides accepted k l

    -- the pair at place k does not stand before it
    new : T (listed k operators rides u v) → ⊥
    new s =
        let w = listed_place k operators rides u v s in
        omega (arith, (held h operators rides accepted).ascending w.0 k w.1 l, ap₂ (λ (x y : ℕ). x * h.rides + y) w.2 w.3)

    -- neither sum is above 255
    pub sums_fit : (one : ℕ) → one ≤ 1 → (get_or d u 0 + one ≤ 255) × (get_or d' v 0 + one ≤ 255)
    sums_fit one e = (
      omega (arith, upto.degrees.operator_degrees u in_range.0, degree_row (g k) u in_range.0, count_le (λ v. (g k).cleared u v) h.rides, accepted.few_rides),
      omega (arith, upto.degrees.ride_degrees v in_range.1, degree_column (g k) v, count_le (λ u. (g k).cleared u v) h.operators, accepted.few_operators),
    )

    pub read_next : (one : ℕ) → one ≡ bit (test u v) → ReadUpTo (k + 1) h operators rides on (set t (u * 60 + v) one) (set t' (v * 200 + u) one) (set d u (get_or d u 0 + one)) (set d' v (get_or d' v 0 + one))
    read_next one e =
        rw e
        (record {
          tables = record {
            by_operator = record {
              wide = accepted.few_rides;
              size = simp length-set upto.tables.by_operator.size;
              bits = table_stored (λ i j b. bit (b && test i j)) operators rides h.operators h.rides 60 k t accepted.few_rides upto.tables.by_operator.size in_range.0 in_range.1 upto.tables.by_operator.bits;
            };
            by_ride = record {
              wide = accepted.few_operators;
              size = simp length-set upto.tables.by_ride.size;
              bits = λ j i a b.
                  table_stored (λ j i b. bit (b && test i j)) rides operators h.rides h.operators 200 k t' accepted.few_operators upto.tables.by_ride.size in_range.1 in_range.0
                  (λ j i a b. upto.tables.by_ride.bits j i a b ∙ sym (ap bit (swapped k i j))) j i a b ∙
                  ap bit (swapped (k + 1) i j);
            };
          };
          degrees = record {
            operators_long = simp length-set upto.degrees.operators_long;
            rides_long = simp length-set upto.degrees.rides_long;
            operator_degrees = λ i a.
                counts_next test operators rides k h.rides in_range.1 new d h.operators (omega (arith, upto.degrees.operators_long, accepted.few_operators)) in_range.0 (λ i a. upto.degrees.operator_degrees i a ∙ degree_row (g k) i a) i a ∙
                sym (degree_row (g (k + 1)) i a);
            ride_degrees = λ j b.
                counts_next (λ v u. test u v) rides operators k h.operators in_range.0 (λ s. new (subst T (listed_swap k operators rides u v) s)) d' h.rides (omega (arith, upto.degrees.rides_long, accepted.few_rides)) in_range.1
                (λ j b. upto.degrees.ride_degrees j b ∙ degree_column (g k) j ∙ count_ext (λ u. (g k).cleared u j) (passed (λ v u. test u v) rides operators k j) h.operators (λ i a. sym (swapped k i j))) j b ∙
                count_ext (passed (λ v u. test u v) rides operators (k + 1) j) (λ u. (g (k + 1)).cleared u j) h.operators (λ i a. swapped (k + 1) i j) ∙
                sym (degree_column (g (k + 1)) j);
          };
        })

-- the degrees in the pairs of g are those in the pairs that its tables hold
pub tabulated : (g : Graph) (t t' d d' : List ℕ) → Tables g t t' → BothDegrees g d d' → Tabulated g.operators g.rides t t' d d'
tabulated g t t' d d' tables degrees =
    let j : Graph = table_graph g.operators g.rides t in
    record {
      tables = tables_held g t t' tables;
      degrees = record {
        operators_long = degrees.operators_long;
        rides_long = degrees.rides_long;
        operator_degrees = λ u h.
            degrees.operator_degrees u h ∙ degree_row g u h ∙ count_ext (λ v. g.cleared u v) (λ v. j.cleared u v) g.rides (λ v l. sym (joined_cleared g t t' tables u v h l)) ∙
            sym (degree_row j u h);
        ride_degrees = λ v l.
            degrees.ride_degrees v l ∙ degree_column g v ∙ count_ext (λ u. g.cleared u v) (λ u. j.cleared u v) g.operators (λ u h. sym (joined_cleared g t t' tables u v h l)) ∙
            sym (degree_column j v);
      };
    }
