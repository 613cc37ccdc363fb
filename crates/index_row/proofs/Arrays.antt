-- The work arrays of a row: its lists are the first words of the arrays, and a sweep is lent the degrees of its side whole.
use Rattle.std.proofs.Common.{arith, ◌≡◌, sym, ap, subst, ◌∙◌, Bool, ◌&&◌, true, false, List, ◌++◌, ℕ, ◌+◌, ◌-◌, ◌≤◌, ◌<◌, length, get_or, take, drop, leb, ltb}
use lib.ListN.{length-take, length-append}
use lib.Seq.{get_or-take, take-append_seam}
use lib.ListN.{get_or-append}
use Rattle.model.specs.Graph.{marked}
use Rattle.model.proofs.Count.{count_ext}
use Rattle.graph_tables.specs.Table.{table_graph}
use Rattle.index_sweeps.specs.Sweep.{falls, Side, SideSwept}
use Rattle.index_row.specs.declared.WorkArrays.{WorkArrays}
use Rattle.index_row.specs.Row.{Work, Fits, Raising, Rounded}
use Rattle.index_row.specs.Source.{first_lists}
use Rattle.index_row.proofs.Raising.{rides_part, operators_part, rounded}

-- a part written back at the front of an array is what the array begins with
again : (k : ℕ) (xs ys : List ℕ) → length ys ≡ k → take k (ys ++ drop k xs) ≡ ys
again k xs ys e = subst (λ (j : ℕ). take j (ys ++ drop k xs) ≡ ys) e (take-append_seam ys (drop k xs))

module _ (t : List ℕ) (w : ℕ) (kept degrees degrees' levels : List ℕ) where
  -- a side whose degrees are lent with words behind them
  side_longer : (others : List ℕ) → length degrees ≤ length degrees' → Side t w kept degrees levels others → Side t w kept degrees' levels others
  side_longer others l s =
      record { table = s.table; degrees_long = omega (arith, s.degrees_long); levels_long = s.levels_long; bits = s.bits; counted = s.counted }

  -- a sweep reads the degrees of the side alone
  module _ (limit level n r : ℕ) (kept' levels' others' : List ℕ) (same : (i : ℕ) → i < n → get_or degrees i 0 ≡ get_or degrees' i 0) where
    same_falls : (i : ℕ) → i < n → falls kept degrees limit i ≡ falls kept degrees' limit i
    same_falls i h = ap (λ (d : ℕ). marked kept i && ltb d limit) (same i h)

    swept_same : SideSwept t w kept degrees levels limit level n r kept' levels' others' → SideSwept t w kept degrees' levels limit level n r kept' levels' others'
    swept_same s =
        record {
          removed = s.removed ∙ count_ext (falls kept degrees limit) (falls kept degrees' limit) n same_falls;
          kept_is = λ k h. s.kept_is k h ∙ ap (λ (d : ℕ). marked kept k && leb limit d) (same k h);
          kept_rest = s.kept_rest;
          bits = s.bits;
          levels_is = λ k h. s.levels_is k h ∙ ap (λ (z : Bool). elim z [ true ↦ level | false ↦ get_or levels k 0 ]) (same_falls k h);
          levels_rest = s.levels_rest;
          others_is = s.others_is;
        }

module _ (n m : ℕ) (t t' : List ℕ) (α β : ℕ) (a : 1 ≤ α) (b : 1 ≤ β) (w : WorkArrays) (row : List ℕ) (fits : Fits n m t t' (first_lists n m w row)) (raising : Raising (table_graph n m t) α β (first_lists n m w row)) where
  abbrev whole : Work
  whole = first_lists n m w row

  pub rides_whole : Side t' 200 whole.rides w.ride_degrees (take (n + m - n) (drop n row)) whole.operator_degrees
  rides_whole = side_longer t' 200 whole.rides whole.ride_degrees w.ride_degrees _ _ (omega (arith, length-take (m - 0) w.ride_degrees)) (rides_part n m t t' α β a b whole fits raising)

  module _ (level r : ℕ) (rides part degrees : List ℕ) (is : level ≡ β - 1) (rides_long : length rides ≡ length whole.rides) (part_long : length part ≡ length (take (n + m - n) (drop n row))) (degrees_long : length degrees ≡ length whole.operator_degrees) (swept : SideSwept t' 200 whole.rides w.ride_degrees (take (n + m - n) (drop n row)) β level (length whole.rides) r rides part degrees) where
    abbrev swept_rides : SideSwept t' 200 whole.rides whole.ride_degrees (take (n + m - n) (drop n row)) β (β - 1) (length whole.rides) r rides part degrees
    swept_rides =
        subst (λ (z : ℕ). SideSwept t' 200 whole.rides whole.ride_degrees (take (n + m - n) (drop n row)) β z (length whole.rides) r rides part degrees) is
        (swept_same t' 200 whole.rides w.ride_degrees whole.ride_degrees _ β level (length whole.rides) r rides part degrees (λ i h. sym (get_or-take (m - 0) w.ride_degrees i 0 (omega (arith, fits.rides)))) swept)

    abbrev degrees_after : List ℕ
    degrees_after = degrees ++ drop (n - 0) w.operator_degrees

    pub operators_whole : Side t 60 whole.operators degrees_after (take (n - 0) (take n row ++ (part ++ drop (n + m - n) (drop n row)))) whole.ride_degrees
    operators_whole = side_longer t 60 whole.operators degrees degrees_after _ _ (simp length-append (omega arith)) (operators_part n m t t' α β a b whole fits raising r rides part degrees rides_long part_long degrees_long swept_rides)

    module _ (r' : ℕ) (operators part' degrees' : List ℕ) (operators_long : length operators ≡ length whole.operators) (part_long' : length part' ≡ length (take (n - 0) (take n row ++ (part ++ drop (n + m - n) (drop n row))))) (degrees_long' : length degrees' ≡ length whole.ride_degrees) (swept' : SideSwept t 60 whole.operators degrees_after (take (n - 0) (take n row ++ (part ++ drop (n + m - n) (drop n row)))) α level (length whole.operators) r' operators part' degrees') where
      abbrev swept_operators : SideSwept t 60 whole.operators degrees (take (n - 0) (take n row ++ (part ++ drop (n + m - n) (drop n row)))) α (β - 1) (length whole.operators) r' operators part' degrees'
      swept_operators =
          subst (λ (z : ℕ). SideSwept t 60 whole.operators degrees (take (n - 0) (take n row ++ (part ++ drop (n + m - n) (drop n row)))) α z (length whole.operators) r' operators part' degrees') is
          (swept_same t 60 whole.operators degrees_after degrees _ α level (length whole.operators) r' operators part' degrees' (λ i h. get_or-append degrees (drop (n - 0) w.operator_degrees) 0 i (omega (arith, fits.operators, fits.operator_degrees, degrees_long))) swept')

      pub arrays_rounded : Rounded (table_graph n m t) α β whole.operators r' (first_lists n m (record { operators = operators ++ drop (n - 0) w.operators; operator_degrees = degrees_after; rides = rides ++ drop (m - 0) w.rides; ride_degrees = degrees' ++ drop (m - 0) w.ride_degrees }) (part' ++ drop (n - 0) (take n row ++ (part ++ drop (n + m - n) (drop n row)))))
      arrays_rounded =
          rw (again (n - 0) w.operators operators (operators_long ∙ fits.operators ∙ sym zero_n), again (n - 0) w.operator_degrees degrees (degrees_long ∙ fits.operator_degrees ∙ sym zero_n), again (m - 0) w.rides rides (rides_long ∙ fits.rides ∙ sym zero_m), again (m - 0) w.ride_degrees degrees' (degrees_long' ∙ fits.ride_degrees ∙ sym zero_m))
          (rounded n m t t' α β a b whole fits raising r rides part degrees rides_long part_long degrees_long swept_rides r' operators part' degrees' part_long' degrees_long' swept_operators)
        where
          zero_n : n - 0 ≡ n
          zero_n = omega arith

          zero_m : m - 0 ≡ m
          zero_m = omega arith
