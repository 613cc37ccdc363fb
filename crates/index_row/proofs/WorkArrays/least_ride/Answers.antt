-- `index_row::WorkArrays::least_ride` meets its contract. The loop's invariant: low is the least degree among the first v rides.
use Rattle.index_row.proofs.Raising.{least_more}
use Rattle.index_row.proofs.WorkArrays.least_ride.Goals as goal

pub loop-v-preserved : goal.loop-v-preserved
loop-v-preserved c = least_more _ _ _ _ _ c.loop-v.invariant c.lower-low.ensures
