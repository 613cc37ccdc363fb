-- `refusal_message::check_preview` meets its contract: the board's number first, then the message's own.
use mathlib.Core.Path.{◌≡◌, refl, sym, ◌∙◌}
use Rattle.std.proofs.Common.{rules}
use Rattle.model.specs.Layout.{Operators, Rides, Stamps}
use Rattle.part_board.specs.Lent.{ref_board}
use Rattle.refusal_kind.specs.Number.{number, number_of}
use Rattle.refusal_kind.proofs.Refused.{refused}
use Rattle.refusal_message.proofs.Message.{either_long, board_room, room_ready, on_board, on_entry, preview_of}
use Rattle.refusal_message.proofs.check_preview.Goals as goal

pub check_board-requires : goal.check_board-requires
check_board-requires c =
    λ e. let l = either_long (ref_board c.args.board) _ (sym c.short_preview.ensures ∙ e) in (l Operators, l Rides, l Stamps)

pub returns-in_err-check_board : goal.returns-in_err-check_board
returns-in_err-check_board c = let b = ref_board c.args.board in
    let r = c.in_err-check_board.field-0.0 in
    let same : number_of c.from_residual.result ≡ number r = search rules in
    same ∙ on_board b c.args.message _ _ c.in_err-check_board.ensures (refused r) ∙ preview_of b _ c.args.message (ref_board c.args.spare).part c.short_preview.ensures

pub check_message_on-requires : goal.check_message_on-requires
check_message_on-requires c = let b = ref_board c.args.board in
    room_ready (board_room b _ (λ e. either_long b _ (sym c.short_preview.ensures ∙ e)) (sym c.in_ok-check_board.ensures))

pub returns : goal.returns
returns c = let b = ref_board c.args.board in
    c.check_message_on.ensures ∙ on_entry b c.args.message _ _ c.in_ok-check_board.ensures refl ∙ preview_of b _ c.args.message (ref_board c.args.spare).part c.short_preview.ensures
