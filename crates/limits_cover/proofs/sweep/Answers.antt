-- `limits_cover::sweep` meets its contract. The loop's invariant: the nodes below x are swept.
use mathlib.Core.Path.{◌≡◌}
use Prim.Native.Nat.{◌+◌, ◌<◌}
use native.Mathlib.Omega.{arith}
use Rattle.model.specs.Graph.{nodes, marked, short}
use Rattle.model.proofs.Count.{bit_le, count_le}
use Rattle.limits_cover.proofs.Sweeps.{swept_more}
use Rattle.limits_cover.proofs.sweep.Goals as goal

pub overflow_add-dropped : goal.overflow_add-dropped
overflow_add-dropped c = let p = c.requires in
    let l = c.loop-x in
    let i = l.invariant p.0 p.1 p.2 in
    let v = (c.visit.ensures p.0 p.1 i.1).0 in
    let t = p.2.tables_are in
    omega (arith, i.0.fewer, count_le (marked c.args.marks.now) (nodes p.0), c.from-dropped.ensures, v.dropped, bit_le (short p.0 p.1 l.marks l.x), t.by_ride.wide, t.by_operator.wide)

pub loop-x-preserved : goal.loop-x-preserved
loop-x-preserved c = λ g limit p.
    let l = c.loop-x in
    let i = l.invariant g limit p in
    let v = c.visit.ensures g limit i.1 in
    let o = p.held.remaining in
    let h : l.x < nodes g = omega (arith, c.loop-x-test, o.operators_are, o.rides_are) in
    rw c.from-dropped.ensures (swept_more g limit _ _ _ _ i.0 h i.1.held.room _ _ v.0, v.1)

pub returns : goal.returns
returns c = λ g limit p.
    let l = c.loop-x in
    let e : l.x ≡ c.args.tables.operators + c.args.tables.rides = omega arith in
    rw (← e) (l.invariant g limit p)
