-- `refusal_table::short_board` meets its contract: 3 of a board, part by part.
use native.Mathlib.Omega.{arith}
use mathlib.Core.Path.{◌≡◌, ◌∙◌}
use lib.Dec.{ltb}
use lib.ListN.{length}
use Rattle.model.specs.Layout.{mark_places}
use Rattle.std.proofs.lemmas.Grind.{common_steps}
use Rattle.pairs.proofs.Place.{product_fits}
use Rattle.part_board.specs.Lent.{ref_board}
use Rattle.refusal_table.proofs.Chain.{parts_short, short_parts}
use Rattle.refusal_table.proofs.short_board.Goals as goal

pub overflow_mul-places : goal.overflow_mul-places
overflow_mul-places c = let h = c.args.board.head in omega (arith, product_fits h.operators h.rides (omega arith) (omega arith))

pub overflow_mul-m : goal.overflow_mul-m
overflow_mul-m c = let h = c.args.board.head in omega (arith, product_fits h.operators h.rides (omega arith) (omega arith), product_fits h.rides h.rides (omega arith) (omega arith))

pub returns-then-board-n-2 : goal.returns-then-board-n-2
returns-then-board-n-2 c =
    let e : c.if-board-n.value ≡ parts_short (ref_board c.args.board) = grind (arith, common_steps) in
    e ∙ short_parts (ref_board c.args.board)

pub returns-else-board-n-2 : goal.returns-else-board-n-2
returns-else-board-n-2 c =
    let b = c.args.board in
    let e : ltb (length b.presence.now) (mark_places b.head) ≡ parts_short (ref_board b) = grind (arith, common_steps) in
    e ∙ short_parts (ref_board b)
