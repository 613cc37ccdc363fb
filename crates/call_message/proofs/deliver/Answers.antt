-- `call_message::deliver` meets its contract: the message is refused, or taken.
use Rattle.std.proofs.Common.{rules, ◌≡◌, sym, ap, ◌∙◌}
use Rattle.model.specs.Layout.{Board}
use Rattle.model.specs.Refusal.{message_refusal}
use Rattle.model.specs.Outcome.{answered}
use Rattle.part_board.specs.Lent.{mut_board}
use Rattle.refusal_kind.specs.Number.{number}
use Rattle.refusal_kind.proofs.Refused.{refused}
use Rattle.message_taking.specs.Deliver.{outcome_of}
use Rattle.call_message.proofs.Refused.{deliver_refused}
use Rattle.call_message.proofs.deliver.Goals as goal

pub returns-in_err-check_message-clause-outcome : goal.returns-in_err-check_message-clause-outcome
returns-in_err-check_message-clause-outcome c = let m = c.args.message in
    let b = mut_board c.args.board.now in
    let r = c.in_err-check_message.field-0.0 in
    let same : outcome_of c.from_residual.result b ≡ answered (record { code = number r; differ = 0 }) b = search rules in
    same ∙ deliver_refused b m _ (c.in_err-check_message.ensures ∙ ap (λ (x : Board). message_refusal x m) c.as_ref.ensures) (refused r)

pub take-requires : goal.take-requires
take-requires c = sym (c.in_ok-check_message.ensures ∙ ap (λ (x : Board). message_refusal x c.args.message) c.as_ref.ensures)
