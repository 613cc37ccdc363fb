-- `call_crowd_cover::crowd_cover` meets its contract: it refuses, or finds the cover for the limits of the look-up.
use mathlib.Core.Path.{◌≡◌, refl}
use Rattle.std.proofs.Common.{rules}
use Rattle.refusal_kind.specs.Number.{number}
use Rattle.refusal_kind.specs.Told.{counts_of}
use Rattle.refusal_kind.proofs.Refused.{refused}
use Rattle.call_crowd_cover.proofs.Outcomes.{refused_board, long, refused_bands, found}
use Rattle.call_crowd_cover.proofs.crowd_cover.Goals as goal

pub returns-in_err-table : goal.returns-in_err-table
returns-in_err-table c = let a = c.args in
    let r = c.in_err-table.field-0.0 in
    let same : counts_of c.from_residual.result ≡ record { code = number r; operators = 0; rides = 0 } = search rules in
    refused_board a.lent.head a.lent.operators.now a.lent.rides.now a.lent.presence.now a.bands a.guests a.lent.minimums.now a.marks.now _ c.in_err-table.ensures.refused (refused r) _ same

pub returns-in_err-limits : goal.returns-in_err-limits
returns-in_err-limits c = let a = c.args in
    let r = c.in_err-limits.field-0.0 in
    let same : counts_of c.from_residual-in_err-limits.result ≡ record { code = number r; operators = 0; rides = 0 } = search rules in
    refused_bands a.lent.head a.lent.operators.now a.lent.rides.now a.lent.presence.now a.bands a.guests a.lent.minimums.now a.marks.now _ c.in_ok-table.ensures.refused refl _ 0 0 c.in_err-limits.ensures (refused r) _ same

pub cover_present-requires : goal.cover_present-requires
cover_present-requires c = let a = c.args in
    let l = long a.lent.head a.lent.operators.now a.lent.rides.now a.lent.presence.now a.bands a.guests a.lent.minimums.now a.marks.now _ c.in_ok-table.ensures.refused refl _ c.in_ok-table.ensures.table.0 in
    (record { presence = l.0; minimums = l.1 }, l.2)

pub returns : goal.returns
returns c = let a = c.args in
    found a.lent.head a.lent.operators.now a.lent.rides.now a.lent.presence.now a.bands a.guests a.lent.minimums.now a.marks.now _ c.in_ok-table.ensures.refused refl _ _ _ c.in_ok-limits.ensures refl _ _ _ c.in_ok-table.ensures.table _ c.cover_present.ensures
