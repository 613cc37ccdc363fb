-- `crowd_bands::widths` meets its contract. The loop's invariant: the guest counts of the bands so far are added up.
use mathlib.Core.Path.{◌≡◌}
use Prim.Native.Nat.{◌≤◌, ◌*◌}
use Rattle.crowd_bands.specs.Bands.{widths as added_up}
use Rattle.crowd_bands.proofs.widths.Given as goal

abbrev pub invariant-loop-band : goal.invariant-loop-band
invariant-loop-band l = (l.sum ≡ added_up l.bands l.band-index) × (l.sum ≤ l.band-index * 65536)
