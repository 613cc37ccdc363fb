-- A message that is refused leaves the board as it came.
use mathlib.Core.Path.{◌≡◌, refl, sym}
use mathlib.Core.Logic.{◌≢◌}
use Prim.Native.Nat.{ℕ, zero, suc}
use Rattle.model.specs.declared.Message.{Message}
use Rattle.model.specs.Layout.{Board}
use Rattle.model.specs.Refusal.{message_refusal}
use Rattle.model.specs.Message.{board_message}
use Rattle.model.specs.Outcome.{answered}
use Rattle.model.proofs.Taken.{message_refused}

pub deliver_refused : (b : Board) (m : Message) (k : ℕ) → k ≡ message_refusal b m → k ≢ 0 → answered (record { code = k; differ = 0 }) b ≡ board_message b m
deliver_refused b m zero e n = absurd (n refl)
deliver_refused b m (suc k) e n = sym (message_refused b m k (sym e))
