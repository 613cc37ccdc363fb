-- `index_sweeps::sweep_side` meets its contract. The loop's invariant: the first i nodes are swept.
use mathlib.Core.Path.{◌≡◌, refl}
use native.Mathlib.Omega.{arith}
use Rattle.model.specs.Count.{bit}
use Rattle.model.proofs.Count.{bit_le, count_le}
use Rattle.index_sweeps.specs.Sweep.{falls}
use Rattle.index_sweeps.proofs.Side.{swept_none, swept_more}
use Rattle.index_sweeps.proofs.sweep_side.Goals as goal

pub loop-i-init : goal.loop-i-init
loop-i-init c = (refl, refl, refl, swept_none _ _ _ _ _ _ _ _ c.requires)

pub overflow_add-removed : goal.overflow_add-removed
overflow_add-removed c = let l = c.loop-i in
    let v = c.visit_side in
    omega (arith, l.invariant.3.removed, count_le (falls c.args.kept.now c.args.sweep.degrees.now c.args.sweep.limit) l.i, c.from-removed.ensures, v.ensures.removed, bit_le (falls l.kept c.args.sweep.degrees.now c.args.sweep.limit l.i))

pub loop-i-preserved : goal.loop-i-preserved
loop-i-preserved c = let l = c.loop-i in
    let v = c.visit_side in
    let b : c.from-removed.result ≡ bit v.result = c.from-removed.ensures in
    rw b (omega arith, omega arith, omega arith, swept_more c.args.sweep.table.now c.args.sweep.width c.args.kept.now c.args.sweep.degrees.now c.args.levels.now l.kept l.levels l.others c.args.sweep.limit c.args.sweep.level l.i l.removed l.invariant.3 (omega arith) (omega (arith, c.requires.levels_long)) (omega arith) _ _ _ _ (omega arith) v.ensures)
