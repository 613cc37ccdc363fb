-- The slot of a message is the model's: by its kind.
use mathlib.Core.Path.{sym}
use native.Mathlib.Omega.{arith}
use Rattle.model.proofs.Refusal.{slot_pair, slot_operator, slot_ride}
use Rattle.message_order.proofs.SlotFromMessage.from.Goals as goal

pub returns-in-0-to-2 : goal.returns-in-0-to-2
returns-in-0-to-2 c = sym (slot_pair c.args.message (omega arith))

pub returns-in-3 : goal.returns-in-3
returns-in-3 c = sym (slot_operator c.args.message (omega arith) (omega arith))

pub returns-in_default : goal.returns-in_default
returns-in_default c = sym (slot_ride c.args.message (omega arith))
