-- Inner contracts: what a message speaks of, as the code has it.
use Rattle.model.specs.Contents.{Slot as ModelSlot, Pair as ModelPair, Operator as ModelOperator, Ride as ModelRide}
use Rattle.message_order.specs.declared.Slot.{Slot}
use Rattle.message_order.specs.declared.Slot.TheVariants.{Pair, Operator, Ride}

-- the slot that this is
abbrev pub slot_is : Slot → ModelSlot
slot_is (Pair u v) = ModelPair u v
slot_is (Operator u) = ModelOperator u
slot_is (Ride v) = ModelRide v
