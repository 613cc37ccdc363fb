-- `refusal_table::check_build` meets its contract: 1 to 5 of its pair table, whose arrays are long enough where no part is too short.
use mathlib.Core.Bool.{Bool}
use mathlib.Core.List.{[], ◌∷◌}
use mathlib.Core.Path.{◌≡◌, sym, ap, ◌∙◌}
use Rattle.std.proofs.Common.{rules}
use Rattle.model.specs.Layout.{Operators, Rides}
use Rattle.model.specs.Refusal.{refused_9, board_short, first_number, table_cases, build_refusal}
use Rattle.model.proofs.Parts.{not_short}
use Rattle.part_board.specs.Lent.{ref_board}
use Rattle.refusal_kind.specs.Number.{number, number_of}
use Rattle.refusal_kind.proofs.Refused.{refused}
use Rattle.refusal_table.proofs.Chain.{table_first}
use Rattle.refusal_table.proofs.check_build.Goals as goal

pub check_table-requires : goal.check_table-requires
check_table-requires c =
    λ e. let l = not_short (ref_board c.args.board) (sym c.short_board.ensures ∙ e) in (l Operators, l Rides)

pub returns-in_err-check_table : goal.returns-in_err-check_table
unfolding build_refusal
returns-in_err-check_table c = let a = c.args in
    let b = ref_board a.board in
    let r = c.in_err-check_table.field-0.0 in
    let same : number_of c.from_residual.result ≡ number r = search rules in
    let e = c.in_err-check_table.ensures.refused ∙ ap (λ (z : Bool). first_number (table_cases b.head z a.board.operators.now a.board.rides.now)) c.short_board.ensures in
    same ∙ table_first b.head (board_short b) a.board.operators.now a.board.rides.now ((9, refused_9 a.start) ∷ []) (number r) e (refused r)
