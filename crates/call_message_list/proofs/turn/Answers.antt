-- `call_message_list::turn` meets its contract: the message is entered and its number stored, and after the last message the index is filled.
use Rattle.std.proofs.Common.{ap, ◌∙◌}
use lib.ListN.{length-set, set}
use Rattle.model.specs.Layout.{Board}
use Rattle.model.specs.Outcome.{listed_out}
use Rattle.part_board.specs.Lent.{mut_board}
use Rattle.call_message_list.proofs.Once.{turn_room, turn_answers, turn_ready, turn_done}
use Rattle.call_message_list.proofs.turn.Goals as goal

pub enter_valid-entered-requires : goal.enter_valid-entered-requires
enter_valid-entered-requires c = let a = c.args in turn_room (mut_board a.board.now) a.message a.n a.answers.now c.requires.list

pub finish-requires : goal.finish-requires
finish-requires c = let a = c.args in
    let e = c.enter_valid-entered.ensures in
    record {
      index = turn_ready (mut_board a.board.now) a.message a.n a.answers.now c.requires.list _ (mut_board c.enter_valid-entered.new.board) (e.number, e.done);
      turn = c.requires.turn;
      numbers = simp length-set (turn_answers (mut_board a.board.now) a.message a.n a.answers.now c.requires.list);
    }

pub returns-clause-done : goal.returns-clause-done
returns-clause-done c = let a = c.args in
    let e = c.enter_valid-entered.ensures in
    ap (λ (b : Board). listed_out 0 b (set a.answers.now a.at c.number_of.result)) c.finish.ensures.done ∙
    turn_done (mut_board a.board.now) a.message a.n a.answers.now c.requires.list _ (mut_board c.enter_valid-entered.new.board) (c.number_of.ensures ∙ e.number, e.done) a.at
