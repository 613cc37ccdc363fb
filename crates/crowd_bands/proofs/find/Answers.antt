-- `crowd_bands::find` meets its contract: 16, 17 and 18 in turn, and else the limits of the band.
use mathlib.Core.Path.{refl, sym, ◌∙◌}
use native.Mathlib.Omega.{arith}
use Rattle.model.proofs.Search.{passes, fails}
use Rattle.crowd_bands.proofs.Looked.{found_out, found_malformed, found_overlap, found_gap, first, found}
use Rattle.crowd_bands.proofs.find.Goals as goal

pub returns-then-out_of_range : goal.returns-then-out_of_range
returns-then-out_of_range c = found_out c.args.bands.now c.args.guests (passes _ _ c.out_of_range.ensures c.if-out_of_range.true)

pub returns-then-any_malformed : goal.returns-then-any_malformed
returns-then-any_malformed c = found_malformed c.args.bands.now c.args.guests (fails _ _ c.out_of_range.ensures c.if-out_of_range.false) _ c.listed-all.ensures.long c.listed-all.ensures.same (passes _ _ c.any_malformed.ensures c.if-any_malformed.true)

pub returns-then-overlap : goal.returns-then-overlap
returns-then-overlap c = found_overlap c.args.bands.now c.args.guests (fails _ _ c.out_of_range.ensures c.if-out_of_range.false) _ c.listed-all.ensures.long c.listed-all.ensures.same (fails _ _ c.any_malformed.ensures c.if-any_malformed.false) (passes _ _ c.overlap.ensures c.if-overlap.true)

pub returns-then-widths-lt20001 : goal.returns-then-widths-lt20001
returns-then-widths-lt20001 c = found_gap c.args.bands.now c.args.guests (fails _ _ c.out_of_range.ensures c.if-out_of_range.false) _ c.listed-all.ensures.long c.listed-all.ensures.same (fails _ _ c.any_malformed.ensures c.if-any_malformed.false) (fails _ _ c.overlap.ensures c.if-overlap.false) (omega (arith, c.widths.ensures, c.if-widths-lt20001.true))

pub unwrap-band-requires : goal.unwrap-band-requires
unwrap-band-requires c = rw (c.band_for.ensures ∙ first c.args.bands.now c.args.guests (fails _ _ c.out_of_range.ensures c.if-out_of_range.false) _ c.listed-all.ensures.long c.listed-all.ensures.same (fails _ _ c.any_malformed.ensures c.if-any_malformed.false) (fails _ _ c.overlap.ensures c.if-overlap.false) (omega (arith, c.widths.ensures, c.if-widths-lt20001.false))) refl

pub returns : goal.returns
returns c = found c.args.bands.now c.args.guests (fails _ _ c.out_of_range.ensures c.if-out_of_range.false) _ c.listed-all.ensures.long c.listed-all.ensures.same (fails _ _ c.any_malformed.ensures c.if-any_malformed.false) (fails _ _ c.overlap.ensures c.if-overlap.false) (omega (arith, c.widths.ensures, c.if-widths-lt20001.false)) c.unwrap-band.result (sym c.band_for.ensures ∙ c.unwrap-band.ensures)
