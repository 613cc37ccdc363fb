-- `call_message_list::deliver_list`: with i messages delivered the list is not refused, and the turns ahead give what all of them give.
use Rattle.std.proofs.Common.{◌≡◌, length}
use lib.ListN.{drop}
use Rattle.model.specs.Refusal.{list_refusal}
use Rattle.part_board.specs.Lent.{mut_board, SameParts}
use Rattle.call_message_list.specs.Once.{turns}
use Rattle.call_message_list.proofs.deliver_list.Given as goal

abbrev pub invariant-loop-i : goal.invariant-loop-i
invariant-loop-i l =
    let n = length l.messages in
    record {
      same : SameParts l.initial.board l.board;
      ready : list_refusal (mut_board l.board) n l.answers ≡ 0;
      ahead : turns n (drop l.i l.messages) l.i (mut_board l.board) l.answers ≡ turns n l.messages 0 (mut_board l.initial.board) l.initial.answers;
    }
