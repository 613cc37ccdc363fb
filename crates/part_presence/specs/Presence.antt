-- Inner contracts: the place of an operator or ride.
use Rattle.std.specs.Prelude.{ℕ}
use Rattle.model.specs.declared.Head.{Head}
use Rattle.model.specs.Contents.{Slot, Pair, Operator, Ride, ride_place}

-- the place of an operator or ride, as marks lie; a pair has none
abbrev pub node_place : Head → Slot → ℕ
node_place h (Pair u v) = 0
node_place h (Operator u) = u
node_place h (Ride v) = ride_place h v
