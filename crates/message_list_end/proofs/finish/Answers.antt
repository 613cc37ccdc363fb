-- `message_list_end::finish` meets its contract: after the last turn the index is filled by `fill_taken`, before it the index stays.
use mathlib.Core.Path.{sym, ap, ◌∙◌}
use Rattle.part_board.specs.Lent.{mut_board}
use Rattle.message_entry.specs.Enter.{with_index}
use Rattle.message_list_end.proofs.Ending.{filled_part, index_last, index_on}
use Rattle.message_list_end.proofs.finish.Goals as goal

pub returns-then-at-n-clause-done : goal.returns-then-at-n-clause-done
returns-then-at-n-clause-done c = c.fill_taken.ensures.done ∙
    ap (with_index (mut_board c.args.board.now)) (filled_part c.args.n _ _ _ c.requires.numbers ∙ sym (index_last _ _ _ _ _ c.if-at-n.true))

pub returns-else-at-n-clause-done : goal.returns-else-at-n-clause-done
returns-else-at-n-clause-done c = ap (with_index (mut_board c.args.board.now)) (sym (index_on _ _ _ _ _ c.if-at-n.false))
