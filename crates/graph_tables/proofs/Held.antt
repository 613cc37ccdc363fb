-- New tables; the rows of a table; the graph that two tables hold.
use mathlib.Core.Path.{◌≡◌, refl, sym, ap, ◌∙◌}
use mathlib.Core.Bool.{Bool}
use mathlib.Core.List.{List}
use Prim.Native.Nat.{ℕ, ◌+◌, ◌-◌, ◌*◌, ◌≤◌, ◌<◌}
use native.Mathlib.Omega.{arith}
use lib.Dec.{eqb}
use lib.ListN.{length, get_or, take, drop, replicate}
use Rattle.model.specs.Count.{bit}
use Rattle.model.specs.Graph.{Graph}
use Rattle.model.proofs.Count.{bit_test}
use Rattle.model.proofs.Store.{part_length, part_at, getD_zeros}
use Rattle.graph_tables.specs.Table.{Table, Tables, ZeroTables, joined, table_graph}
use Rattle.graph_tables.proofs.Place.{row_inside}

-- two new tables are tables of zeros
pub zero_tables : ZeroTables (replicate 12000 0) (replicate 12000 0)
zero_tables = record { by_operator_long = refl; by_ride_long = refl; by_operator = getD_zeros 12000; by_ride = getD_zeros 12000 }

-- row i of a table, as code lends it
module _ (r : ℕ → ℕ → Bool) (a b w : ℕ) (t : List ℕ) (h : Table r a b w t) (i : ℕ) (l : i < a) (c : ℕ) (e : c ≡ b) where
  row_fits : i * w + c ≤ length t
  row_fits = row_inside a w i c l (omega (arith, h.wide)) (length t) h.size

  abbrev row : List ℕ
  row = take (i * w + c - i * w) (drop (i * w) t)

  pub row_length : length row ≡ c
  row_length = part_length t (i * w) c row_fits

  pub row_at : (j : ℕ) → j < c → get_or row j 0 ≡ bit (r i j)
  row_at j k = part_at t (i * w) c row_fits j 0 k ∙ h.bits i j l (omega arith)

module _ (g : Graph) (t t' : List ℕ) (tables : Tables g t t') where
  -- the graph that tables of g hold has its clearances
  pub joined_cleared : (u v : ℕ) → u < g.operators → v < g.rides → joined t 60 u v ≡ g.cleared u v
  joined_cleared u v k l = ap (λ (z : ℕ). eqb z 1) (tables.by_operator.bits u v k l) ∙ bit_test (g.cleared u v)

  -- so has the table by ride
  pub joined_mirrored : (u v : ℕ) → u < g.operators → v < g.rides → joined t' 200 v u ≡ g.cleared u v
  joined_mirrored u v k l = ap (λ (z : ℕ). eqb z 1) (tables.by_ride.bits v u l k) ∙ bit_test (g.cleared u v)

  -- and they are tables of it
  pub tables_held : Tables (table_graph g.operators g.rides t) t t'
  tables_held =
      record {
        by_operator = record {
          wide = tables.by_operator.wide;
          size = tables.by_operator.size;
          bits = λ u v k l. tables.by_operator.bits u v k l ∙ ap bit (sym (joined_cleared u v k l));
        };
        by_ride = record {
          wide = tables.by_ride.wide;
          size = tables.by_ride.size;
          bits = λ v u l k. tables.by_ride.bits v u l k ∙ ap bit (sym (joined_cleared u v k l));
        };
      }
