-- `refusal_message::check_list` meets its contract: 3 of the board, or of the answer list.
use mathlib.Core.Bool.{◌||◌}
use mathlib.Core.Path.{◌≡◌, sym, ◌∙◌}
use Rattle.std.proofs.Common.{arith}
use Rattle.std.proofs.lemmas.Grind.{common_steps}
use Rattle.model.specs.Layout.{Operators, Rides, Stamps}
use Rattle.model.specs.Refusal.{refused_3, board_short}
use Rattle.part_board.specs.Lent.{ref_board}
use Rattle.refusal_message.proofs.Message.{either_long, list_of}
use Rattle.refusal_message.proofs.check_list.Goals as goal

pub check_board-requires : goal.check_board-requires
check_board-requires c = let a = c.args in
    let s : c.if-short_board.check_board ≡ (board_short (ref_board a.board) || refused_3 a.messages a.answers.now) = grind (arith, common_steps) in
    λ e. let l = either_long (ref_board a.board) _ (sym s ∙ e) in (l Operators, l Rides, l Stamps)

pub returns : goal.returns
returns c = let a = c.args in
    let s : c.if-short_board.check_board ≡ (board_short (ref_board a.board) || refused_3 a.messages a.answers.now) = grind (arith, common_steps) in
    c.check_board.ensures ∙ list_of (ref_board a.board) _ a.messages a.answers.now s
