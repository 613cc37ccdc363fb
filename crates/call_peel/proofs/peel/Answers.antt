-- `call_peel::peel` meets its contract: it refuses, or peels.
use mathlib.Core.Path.{◌≡◌, sym, ap, ◌∙◌}
use Rattle.std.proofs.Common.{rules}
use Rattle.model.specs.declared.Peeled.{Peeled}
use Rattle.model.specs.Outcome.{peel_left}
use Rattle.refusal_kind.specs.Number.{number}
use Rattle.refusal_kind.specs.Told.{peeled_of}
use Rattle.refusal_kind.proofs.Refused.{refused}
use Rattle.call_peel.proofs.Peels.{peel_refused, peel_done, peel_long}
use Rattle.call_peel.proofs.peel.Goals as goal

pub returns-in_err-table : goal.returns-in_err-table
returns-in_err-table c = let a = c.args in
    let r = c.in_err-table.field-0.0 in
    let same : peeled_of c.from_residual.result ≡ record { code = number r; settled = 0; steps = 0 } = search rules in
    ap (λ (p : Peeled). peel_left p a.marks.now) same ∙
    peel_refused a.lent.head a.lent.operators.now a.lent.rides.now a.lent.presence.now a.lent.minimums.now a.marks.now a.alpha a.beta a.steps _ c.in_err-table.ensures.refused (refused r)

pub peel_over-requires : goal.peel_over-requires
peel_over-requires c = let a = c.args in
    let l = peel_long a.lent.head a.lent.operators.now a.lent.rides.now a.lent.presence.now a.lent.minimums.now a.marks.now (sym c.in_ok-table.ensures.refused) _ c.in_ok-table.ensures.table.0 in
    (record { presence = l.0; minimums = l.1 }, l.2)

pub returns : goal.returns
returns c = let a = c.args in
    peel_done a.lent.head a.lent.operators.now a.lent.rides.now a.lent.presence.now a.lent.minimums.now a.marks.now (sym c.in_ok-table.ensures.refused) a.alpha a.beta a.steps _ _ _ c.in_ok-table.ensures.table _ _ c.peel_over.ensures
