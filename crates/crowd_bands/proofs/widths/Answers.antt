-- `crowd_bands::widths` meets its contract. The loop's invariant: the guest counts of the bands so far are added up.
use mathlib.Core.Path.{sym}
use native.Mathlib.Omega.{arith}
use Rattle.crowd_bands.proofs.Table.{widths_none, widths_more}
use Rattle.crowd_bands.proofs.widths.Goals as goal

pub loop-band-init : goal.loop-band-init
loop-band-init c = (sym (widths_none _), omega arith)

pub loop-band-preserved : goal.loop-band-preserved
loop-band-preserved c = (omega (arith, widths_more c.args.bands.now c.loop-band.band-index, c.width-sum.ensures.0), omega (arith, c.width-sum.ensures.1))
