-- `refusal_peel::check_peel` meets its contract: 1 to 5 first, then 12.
use mathlib.Core.Path.{◌≡◌, refl, sym, ◌∙◌}
use Rattle.std.proofs.Common.{rules}
use Rattle.refusal_kind.specs.Number.{number, number_of}
use Rattle.refusal_kind.proofs.Refused.{refused}
use Rattle.refusal_peel.proofs.Chain.{peel_table, peel_12, peel_0, marks_long}
use Rattle.refusal_peel.proofs.check_peel.Goals as goal

pub returns-in_err-table-clause-refused : goal.returns-in_err-table-clause-refused
returns-in_err-table-clause-refused c = let a = c.args in
    let r = c.in_err-table.field-0.0 in
    let same : number_of c.from_residual.result ≡ number r = search rules in
    same ∙ peel_table a.lent.head a.lent.operators.now a.lent.rides.now a.lent.presence.now a.lent.minimums.now a.marks.now _ c.in_err-table.ensures.refused (refused r)

pub bad_marks-requires : goal.bad_marks-requires
bad_marks-requires c = let a = c.args in
    marks_long a.lent.head a.lent.operators.now a.lent.rides.now a.lent.presence.now a.lent.minimums.now a.marks.now _ c.in_ok-table.ensures.refused refl

pub returns-then-bad_marks-clause-refused : goal.returns-then-bad_marks-clause-refused
returns-then-bad_marks-clause-refused c = let a = c.args in
    peel_12 a.lent.head a.lent.operators.now a.lent.rides.now a.lent.presence.now a.lent.minimums.now a.marks.now _ c.in_ok-table.ensures.refused refl (sym c.bad_marks.ensures ∙ c.if-bad_marks.true)

pub returns-clause-refused : goal.returns-clause-refused
returns-clause-refused c = let a = c.args in
    peel_0 a.lent.head a.lent.operators.now a.lent.rides.now a.lent.presence.now a.lent.minimums.now a.marks.now _ c.in_ok-table.ensures.refused refl (sym c.bad_marks.ensures ∙ c.if-bad_marks.false)
