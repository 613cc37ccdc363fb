-- From tables and degrees to the start of a row.
use mathlib.Core.Path.{◌≡◌, sym, ◌∙◌, subst}
use mathlib.Core.List.{List}
use Prim.Native.Nat.{ℕ, ◌+◌, ◌-◌, ◌<◌}
use native.Mathlib.Omega.{arith}
use lib.Dec.{T, eqb}
use lib.ListN.{length, get_or, take}
use lib.Seq.{get_or-take}
use Rattle.model.proofs.Store.{first_length}
use Rattle.graph_tables.specs.Table.{Tables, table_graph}
use Rattle.graph_degrees.specs.Degrees.{BothDegrees}
use Rattle.index_row.specs.declared.WorkArrays.{WorkArrays}
use Rattle.index_row.specs.Row.{Fits, Least, Start}
use Rattle.index_row.specs.Source.{first_lists}

-- the least degree of m rides, as the arrays begin with them
pub least_first : (m : ℕ) (rides degrees : List ℕ) (r : ℕ) → Least m rides degrees r → Least m (take (m - 0) rides) (take (m - 0) degrees) r
least_first m rides degrees r least =
    record {
      bound = least.bound;
      low = λ v h k. omega (arith, least.low v h (subst (λ (z : ℕ). T (eqb z 1)) (get_or-take (m - 0) rides v 0 (omega arith)) k), get_or-take (m - 0) degrees v 0 (let z : v < m - 0 = omega arith in z));
      lowest = λ b h f. least.lowest b h (λ v k t. omega (arith, f v k (subst (λ (z : ℕ). T (eqb z 1)) (sym (get_or-take (m - 0) rides v 0 (omega arith))) t), get_or-take (m - 0) degrees v 0 (let z : v < m - 0 = omega arith in z)));
    }

module _ (n m : ℕ) (t t' : List ℕ) (tables : Tables (table_graph n m t) t t') (w : WorkArrays) (row : List ℕ) where
  -- the lists that the arrays begin with fit
  pub arrays_fit : length w.operators ≡ 200 → length w.operator_degrees ≡ 200 → length w.rides ≡ 60 → length w.ride_degrees ≡ 60 → length row ≡ n + m → Fits n m t t' (first_lists n m w row)
  arrays_fit o od r rd long =
      record {
        operators = first_length w.operators n (omega (arith, tables.by_ride.wide));
        operator_degrees = first_length w.operator_degrees n (omega (arith, tables.by_ride.wide));
        rides = first_length w.rides m (omega (arith, tables.by_operator.wide));
        ride_degrees = first_length w.ride_degrees m (omega (arith, tables.by_operator.wide));
        levels = long;
        tables = tables;
      }

  -- all nodes are kept
  pub row_start : ((i : ℕ) → i < 200 → get_or w.operators i 0 ≡ 1) → ((i : ℕ) → i < 60 → get_or w.rides i 0 ≡ 1) → BothDegrees (table_graph n m t) w.operator_degrees w.ride_degrees → Start (table_graph n m t) (first_lists n m w row)
  row_start one one' all =
      record {
        operators = λ u h. subst (λ (z : ℕ). T (eqb z 1)) (sym (get_or-take (n - 0) w.operators u 0 (omega arith) ∙ one u (omega (arith, tables.by_ride.wide)))) tt;
        rides = λ v h. subst (λ (z : ℕ). T (eqb z 1)) (sym (get_or-take (m - 0) w.rides v 0 (omega arith) ∙ one' v (omega (arith, tables.by_operator.wide)))) tt;
        operator_degrees = λ u h. get_or-take (n - 0) w.operator_degrees u 0 (omega arith) ∙ all.operator_degrees u h;
        ride_degrees = λ v h. get_or-take (m - 0) w.ride_degrees v 0 (omega arith) ∙ all.ride_degrees v h;
      }
