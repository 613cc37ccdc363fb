-- `refusal_message::check_board` meets its contract: 1 to 5 of its pair table, and then 6.
use mathlib.Core.Path.{◌≡◌, refl, sym, ◌∙◌}
use mathlib.Core.List.{[]}
use Rattle.model.proofs.Count.{test_false}
use Rattle.model.proofs.Refusal.{table_unrefused}
use Rattle.std.proofs.Common.{rules}
use Rattle.part_board.specs.Lent.{ref_board}
use Rattle.refusal_kind.specs.Number.{number, number_of}
use Rattle.refusal_kind.proofs.Refused.{refused}
use Rattle.refusal_message.proofs.Message.{stamped_table, stamped_6, stamped_0}
use Rattle.refusal_message.proofs.check_board.Goals as goal

pub returns-in_err-table : goal.returns-in_err-table
returns-in_err-table c = let a = c.args in
    let r = c.in_err-table.field-0.0 in
    let same : number_of c.from_residual.result ≡ number r = search rules in
    same ∙ stamped_table (ref_board a.board) a.short _ c.in_err-table.ensures.refused (refused r)

pub missing-requires : goal.missing-requires
missing-requires c = let a = c.args in
    let b = a.board in
    let u = (table_unrefused b.head a.short b.operators.now b.rides.now [] (sym c.in_ok-table.ensures.refused)).0 in
    rw c.in_ok-table.ensures.table.0 (c.requires (test_false a.short u.long)).2

pub returns-then-missing : goal.returns-then-missing
returns-then-missing c = let b = c.args.board in
    let e = c.in_ok-table.ensures.table in
    let t = rw (e.0, e.1, e.2) at (c.missing.ensures b.revisions.now b.index.now b.presence_stamps.now b.presence_revisions.now b.presence.now) in
    stamped_6 (ref_board b) c.args.short _ c.in_ok-table.ensures.refused refl (sym t ∙ c.if-missing.true)

pub returns : goal.returns
returns c = let b = c.args.board in
    let e = c.in_ok-table.ensures.table in
    let t = rw (e.0, e.1, e.2) at (c.missing.ensures b.revisions.now b.index.now b.presence_stamps.now b.presence_revisions.now b.presence.now) in
    stamped_0 (ref_board b) c.args.short _ c.in_ok-table.ensures.refused refl (sym t ∙ c.if-missing.false)
