-- `index_board::fill_board` meets its contract: the index is filled from the board's own pairs and presence words.
use Rattle.std.proofs.Common.{List, ℕ, ap}
use Rattle.model.specs.Layout.{lent}
use Rattle.index_board.proofs.fill_board.Goals as goal

pub returns-clause-done : goal.returns-clause-done
returns-clause-done c = let b = c.args.board.now in
    ap (λ (i : List ℕ). lent b.head b.operators.now b.rides.now b.stamps.now b.revisions.now i b.presence_stamps.now b.presence_revisions.now b.presence.now) c.fill_index.ensures.0
