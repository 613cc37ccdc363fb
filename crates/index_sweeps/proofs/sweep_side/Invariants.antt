-- `index_sweeps::sweep_side` meets its contract. The loop's invariant: the first i nodes are swept.
use mathlib.Core.Path.{◌≡◌}
use lib.ListN.{length}
use Rattle.index_sweeps.specs.Sweep.{SideSwept}
use Rattle.index_sweeps.proofs.sweep_side.Given as goal

abbrev pub invariant-loop-i : goal.invariant-loop-i
invariant-loop-i l = (length l.kept ≡ length l.initial.kept) ×
    (length l.levels ≡ length l.initial.levels) ×
    (length l.others ≡ length l.initial.others) ×
    SideSwept l.sweep.table.now l.sweep.width l.initial.kept l.sweep.degrees.now l.initial.levels l.sweep.limit l.sweep.level l.i l.removed l.kept l.levels l.others
