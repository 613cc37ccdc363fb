-- `index_row::WorkArrays::least_ride` meets its contract. The loop's invariant: low is the least degree among the first v rides.
use Rattle.index_row.specs.Row.{Least}
use Rattle.index_row.proofs.WorkArrays.least_ride.Given as goal

abbrev pub invariant-loop-v : goal.invariant-loop-v
invariant-loop-v l = Least l.v l.self.rides l.self.ride_degrees l.low
