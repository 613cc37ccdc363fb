-- `graph_drops::subtract_row` meets its contract.
use native.Mathlib.Omega.{arith}
use Rattle.graph_drops.proofs.Drop.{operator_fits, operator_left, ride_fits, ride_left}
use Rattle.graph_drops.proofs.subtract_row.Goals as goal

pub subtract_at-requires : goal.subtract_at-requires
subtract_at-requires c = let p = c.requires.0 in operator_fits _ _ _ _ _ p.1 _ p.2 p.3 _ p.4 (omega arith)

pub returns-then-x-operators : goal.returns-then-x-operators
returns-then-x-operators c = λ g marks t o m. operator_left _ _ _ _ _ _ _ t o _ m c.if-x-operators.true _ c.subtract_at.ensures

pub subtract_at-requires-2 : goal.subtract_at-requires-2
subtract_at-requires-2 c = let p = c.requires.0 in ride_fits _ _ _ _ _ p.1 _ p.2 p.3 _ p.4 (omega arith) c.requires.1

pub returns : goal.returns
returns c = λ g marks t o m. ride_left _ _ _ _ _ _ _ t o _ m (omega arith) c.requires.1 _ c.subtract_at-2.ensures
