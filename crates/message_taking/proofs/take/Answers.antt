-- `message_taking::take` meets its contract: the message is entered, and the index is that of the pairs that then count.
use Rattle.part_board.specs.Lent.{mut_board}
use Rattle.message_taking.proofs.Taken.{take_ready, fill_ready, take_done}
use Rattle.message_taking.proofs.take.Goals as goal

pub enter-requires : goal.enter-requires
enter-requires c = take_ready (mut_board c.args.board.now) c.args.message c.requires

pub fill_board-requires : goal.fill_board-requires
fill_board-requires c = fill_ready (mut_board c.args.board.now) c.args.message c.requires _ c.enter.ensures.done

pub returns-clause-outcome : goal.returns-clause-outcome
returns-clause-outcome c = let i = c.fill_board in
    take_done (mut_board c.args.board.now) c.args.message c.requires _ c.enter.ensures.done i.result _ i.ensures.done i.ensures.differ
