-- `refusal_message::check_message_on` meets its contract: the message's own numbers, and then 10.
use mathlib.Core.Path.{◌≡◌, refl, sym, ◌∙◌}
use Rattle.std.proofs.Common.{rules}
use Rattle.part_board.specs.Lent.{ref_board}
use Rattle.refusal_kind.specs.Number.{number, number_of}
use Rattle.refusal_kind.proofs.Refused.{refused}
use Rattle.refusal_message.proofs.Message.{entry_invalid, entry_10, entry_0}
use Rattle.refusal_message.proofs.check_message_on.Goals as goal

pub returns-in_err-check_valid : goal.returns-in_err-check_valid
returns-in_err-check_valid c = let a = c.args in
    let r = c.in_err-check_valid.field-0.0 in
    let same : number_of c.from_residual.result ≡ number r = search rules in
    same ∙ entry_invalid (ref_board a.board) a.message _ c.in_err-check_valid.ensures (refused r)

pub returns-then-not_later : goal.returns-then-not_later
returns-then-not_later c = let a = c.args in
    entry_10 (ref_board a.board) a.message _ c.in_ok-check_valid.ensures refl (sym (c.not_later.ensures a.board.index.now) ∙ c.if-not_later.true)

pub returns : goal.returns
returns c = let a = c.args in
    entry_0 (ref_board a.board) a.message _ c.in_ok-check_valid.ensures refl (sym (c.not_later.ensures a.board.index.now) ∙ c.if-not_later.false)
