-- `graph_drops::count_short` meets its contract. The loop's invariant: of the first x nodes those that fall short are counted.
use native.Mathlib.Omega.{arith}
use Rattle.model.specs.Count.{count}
use Rattle.model.proofs.Count.{bit_le, count_le, count_more}
use Rattle.graph_drops.specs.Drop.{lacks}
use Rattle.graph_drops.proofs.count_short.Goals as goal

pub loop-x-init : goal.loop-x-init
unfolding count
loop-x-init c = λ i. 0

pub overflow_add-short : goal.overflow_add-short
overflow_add-short c = let l = c.loop-x in
    let a = c.args in
    omega (arith, l.invariant, count_le (lacks a.degrees.now a.limits.now) l.x, bit_le (lacks a.degrees.now a.limits.now l.x), c.from-short.ensures)

pub loop-x-preserved : goal.loop-x-preserved
loop-x-preserved c = let l = c.loop-x in
    let a = c.args in
    omega (arith, l.invariant, c.from-short.ensures, count_more (lacks a.degrees.now a.limits.now) l.x)
