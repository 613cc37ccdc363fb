-- `message_list_end::fill_taken` meets its contract: the index is filled, or stays.
use mathlib.Core.Path.{sym, ap, ◌∙◌}
use Rattle.part_board.specs.Lent.{mut_board}
use Rattle.message_entry.specs.Enter.{with_index}
use Rattle.message_list_end.proofs.Ending.{filled_yes, filled_no}
use Rattle.message_list_end.proofs.fill_taken.Goals as goal

pub returns-then-any_taken-clause-done : goal.returns-then-any_taken-clause-done
returns-then-any_taken-clause-done c = c.fill_board.ensures.done ∙ ap (with_index (mut_board c.args.board.now)) (sym (filled_yes _ _ _ _ (sym c.any_taken.ensures ∙ c.if-any_taken.true)))

pub returns-else-any_taken-clause-done : goal.returns-else-any_taken-clause-done
returns-else-any_taken-clause-done c = ap (with_index (mut_board c.args.board.now)) (sym (filled_no _ _ _ _ (sym c.any_taken.ensures ∙ c.if-any_taken.false)))
