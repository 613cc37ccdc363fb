-- `call_message_list::deliver_list` meets its contract: refused, or the messages have their turns in order.
use Rattle.std.proofs.Common.{rules, ◌≡◌, refl, sym, ap, ◌∙◌, length, arith}
use Rattle.model.specs.Layout.{Board}
use Rattle.model.specs.Refusal.{list_refusal}
use Rattle.part_board.specs.Lent.{mut_board}
use Rattle.refusal_kind.specs.Number.{number, number_of}
use Rattle.refusal_kind.proofs.Refused.{refused}
use Rattle.call_message_list.proofs.Turns.{ready_more, one_more, all_turned, list_ended, list_kept}
use Rattle.call_message_list.proofs.deliver_list.Goals as goal

pub returns-in_err-check_list-clause-outcome : goal.returns-in_err-check_list-clause-outcome
returns-in_err-check_list-clause-outcome c = let a = c.args in
    let r = c.in_err-check_list.field-0.0 in
    let same : number_of c.from_residual.result ≡ number r = search rules in
    list_kept (mut_board a.board.now) a.messages.now a.answers.now _ (same ∙ c.in_err-check_list.ensures ∙ ap (λ (b : Board). list_refusal b (length a.messages.now) a.answers.now) c.as_ref.ensures) (rw same (refused r))

pub loop-i-init : goal.loop-i-init
loop-i-init c = let a = c.args in
    record {
      same = search rules;
      ready = sym (c.in_ok-check_list.ensures ∙ ap (λ (b : Board). list_refusal b (length a.messages.now) a.answers.now) c.as_ref.ensures);
      ahead = refl;
    }

pub turn-requires-clause-list : goal.turn-requires-clause-list
turn-requires-clause-list c = c.loop-i.invariant.ready

pub loop-i-preserved : goal.loop-i-preserved
loop-i-preserved c = let l = c.loop-i in
    let ms = c.args.messages.now in
    let t = c.turn.ensures in
    record {
      same = search rules;
      ready = ready_more _ _ _ _ l.i l.answers _ l.invariant.ready t.done;
      ahead = one_more ms _ _ l.i _ _ l.answers _ c.loop-i-test.true l.invariant.ahead t.done;
    }

pub returns-clause-same : goal.returns-clause-same
returns-clause-same c = c.loop-i.invariant.same

pub returns-clause-outcome : goal.returns-clause-outcome
returns-clause-outcome c = let a = c.args in
    let l = c.loop-i in
    let none = sym (c.in_ok-check_list.ensures ∙ ap (λ (b : Board). list_refusal b (length a.messages.now) a.answers.now) c.as_ref.ensures) in
    list_ended (mut_board a.board.now) a.messages.now a.answers.now _ _ none (all_turned a.messages.now _ _ l.i _ l.answers (omega arith) l.invariant.ahead)
