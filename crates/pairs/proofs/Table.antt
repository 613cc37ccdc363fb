-- The pair arrays of a board to which 1 to 5 do not apply are accepted.
use native.Mathlib.Omega.{arith}
use Rattle.model.specs.Layout.{Operators, Rides, Board, listed_graph}
use Rattle.model.proofs.Pairs.{pairs_fit, pairs_accepted}
use Rattle.model.proofs.Refusal.{AcceptedTable}
use Rattle.pairs.specs.Accepted.{AcceptedPairs}

pub accepted_pairs : (b : Board) → AcceptedTable b → AcceptedPairs b.head (b.part Operators) (b.part Rides)
accepted_pairs b t =
    let fits = pairs_fit b.head (b.part Operators) (b.part Rides) (listed_graph b).cleared t.pairs in
    record {
      few_operators = t.few_operators;
      few_rides = t.few_rides;
      operators_long = omega (arith, fits, t.long Operators);
      rides_long = omega (arith, fits, t.long Rides);
      ordered = pairs_accepted b.head (b.part Operators) (b.part Rides) (listed_graph b).cleared t.pairs;
    }
