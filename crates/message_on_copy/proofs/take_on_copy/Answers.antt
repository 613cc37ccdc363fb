-- `message_on_copy::take_on_copy` meets its contract: the board copied, and the message taken on the copy.
use Rattle.part_board.specs.Lent.{ref_board, mut_board}
use Rattle.message_on_copy.proofs.OnCopy.{both_long, copy_none, taken_there}
use Rattle.message_on_copy.proofs.take_on_copy.Goals as goal

pub copy_board-requires : goal.copy_board-requires
copy_board-requires c = let l = both_long (ref_board c.args.board) c.args.message (mut_board c.args.spare.now).part c.requires in
    record { long = l.0; room = l.1 }

pub take-requires : goal.take-requires
take-requires c = copy_none (ref_board c.args.board) c.args.message (mut_board c.args.spare.now).part c.requires _ c.copy_board.ensures.copy

pub returns-clause-outcome : goal.returns-clause-outcome
returns-clause-outcome c = taken_there (ref_board c.args.board) c.args.message (mut_board c.args.spare.now).part c.requires _ c.copy_board.ensures.copy _ c.take.ensures.outcome
