-- `call_own_cover::own_cover` meets its contract: it refuses, or finds the cover with minimums.
use mathlib.Core.Path.{◌≡◌, refl}
use Rattle.std.proofs.Common.{rules}
use Rattle.refusal_kind.specs.Number.{number}
use Rattle.refusal_kind.specs.Told.{counts_of}
use Rattle.refusal_kind.proofs.Refused.{refused as not_zero}
use Rattle.call_own_cover.proofs.Outcomes.{long, refused, found}
use Rattle.call_own_cover.proofs.own_cover.Goals as goal

pub returns-in_err-table : goal.returns-in_err-table
returns-in_err-table c = let a = c.args in
    let r = c.in_err-table.field-0.0 in
    let same : counts_of c.from_residual.result ≡ record { code = number r; operators = 0; rides = 0 } = search rules in
    refused a.lent.head a.lent.operators.now a.lent.rides.now a.lent.presence.now a.lent.minimums.now a.marks.now _ c.in_err-table.ensures.refused a.alpha a.beta (not_zero r) _ same

pub cover_present-requires : goal.cover_present-requires
cover_present-requires c = let a = c.args in
    let l = long a.lent.head a.lent.operators.now a.lent.rides.now a.lent.presence.now a.lent.minimums.now a.marks.now _ c.in_ok-table.ensures.refused refl _ c.in_ok-table.ensures.table.0 in
    (record { presence = l.0; minimums = l.1 }, l.2)

pub returns : goal.returns
returns c = let a = c.args in
    found a.lent.head a.lent.operators.now a.lent.rides.now a.lent.presence.now a.lent.minimums.now a.marks.now _ c.in_ok-table.ensures.refused a.alpha a.beta refl _ _ _ c.in_ok-table.ensures.table _ c.cover_present.ensures
