-- `message_entry::enter_valid` meets its contract: refused by its number, or entered.
use Rattle.std.proofs.Common.{rules, ◌≡◌, sym, ap, ◌∙◌, subst}
use Rattle.model.specs.Layout.{Board}
use Rattle.part_board.specs.Lent.{mut_board}
use Rattle.refusal_kind.specs.Number.{number, number_of as answered}
use Rattle.refusal_kind.proofs.Refused.{refused}
use Rattle.refusal_message.specs.Ready.{Ready}
use Rattle.refusal_message.proofs.Message.{room_ready}
use Rattle.message_entry.specs.Enter.{with_index, number_of}
use Rattle.message_entry.proofs.AnyIndex.{number_any, entered_valid_any}
use Rattle.message_entry.proofs.Entering.{enters_none, entered_none, entered_refused}
use Rattle.message_entry.proofs.enter_valid.Goals as goal

pub check_message_on-requires : goal.check_message_on-requires
check_message_on-requires c = subst Ready (sym c.as_ref.ensures) (room_ready c.requires)

pub returns-in_err-check_message_on-clause-number : goal.returns-in_err-check_message_on-clause-number
returns-in_err-check_message_on-clause-number c = let same : answered c.from_residual.result ≡ number c.in_err-check_message_on.field-0.0 = search rules in
    same ∙ c.in_err-check_message_on.ensures ∙ ap (λ (b : Board). number_of b c.args.message) c.as_ref.ensures

pub returns-in_err-check_message_on-clause-done : goal.returns-in_err-check_message_on-clause-done
returns-in_err-check_message_on-clause-done c = let told = c.in_err-check_message_on.ensures ∙ ap (λ (b : Board). number_of b c.args.message) c.as_ref.ensures in
    entered_refused (mut_board c.args.board.now) c.args.message _ told (refused c.in_err-check_message_on.field-0.0)

pub returns-in_err-check_message_on-clause-any_index : goal.returns-in_err-check_message_on-clause-any_index
returns-in_err-check_message_on-clause-any_index c = let b = mut_board c.args.board.now in
    let whole = c.in_err-check_message_on.ensures ∙ ap (λ (x : Board). number_of x c.args.message) c.as_ref.ensures in
    let same : answered c.from_residual.result ≡ number c.in_err-check_message_on.field-0.0 = search rules in
    λ index. (
      same ∙ whole ∙ number_any b index c.args.message,
      ap (λ (x : Board). with_index x index) (entered_refused b c.args.message _ whole (refused c.in_err-check_message_on.field-0.0)) ∙ entered_valid_any b index c.args.message,
    )

pub enter-requires : goal.enter-requires
enter-requires c = let told = c.in_ok-check_message_on.ensures ∙ ap (λ (b : Board). number_of b c.args.message) c.as_ref.ensures in
    enters_none (mut_board c.args.board.now) c.args.message c.requires (sym told)

pub returns-clause-number : goal.returns-clause-number
returns-clause-number c = c.in_ok-check_message_on.ensures ∙ ap (λ (b : Board). number_of b c.args.message) c.as_ref.ensures

pub returns-clause-done : goal.returns-clause-done
returns-clause-done c = let told = c.in_ok-check_message_on.ensures ∙ ap (λ (b : Board). number_of b c.args.message) c.as_ref.ensures in
    c.enter.ensures.done ∙ entered_none (mut_board c.args.board.now) c.args.message (sym told)

pub returns-clause-any_index : goal.returns-clause-any_index
returns-clause-any_index c = let b = mut_board c.args.board.now in
    let told = c.in_ok-check_message_on.ensures ∙ ap (λ (x : Board). number_of x c.args.message) c.as_ref.ensures in
    λ index. (
      told ∙ number_any b index c.args.message,
      ap (λ (x : Board). with_index x index) (c.enter.ensures.done ∙ entered_none b c.args.message (sym told)) ∙ entered_valid_any b index c.args.message,
    )
