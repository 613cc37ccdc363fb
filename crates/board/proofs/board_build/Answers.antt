-- `board_build` meets its contract, which is that of `call_build::build`.
use Rattle.std.proofs.Common.{rules, sym, ap, ◌∙◌}
use Rattle.model.specs.Outcome.{build_left}
use Rattle.part_board.proofs.Whole.{lent_back}
use Rattle.board.proofs.board_build.Goals as goal

pub returns : goal.returns
returns c = let e = c.build.ensures in
    rw c.number_of.ensures
    (ap (build_left _) (lent_back c.build.new.board _ _ _ _ _ _ _ _ _ (sym e.head) (search rules) (search rules) (search rules) (search rules) (search rules) (search rules) (search rules) (search rules)) ∙ e.outcome)
