-- `limits_cover::settle` meets its contract. The loop's invariant: only nodes that fell short were dropped; each turn drops one.
use native.Mathlib.Omega.{arith}
use Rattle.limits_cover.proofs.Sweeps.{shrunk_more, swept_settled}
use Rattle.limits_cover.proofs.settle.Goals as goal

pub returns : goal.returns
returns c = λ g limit p.
    let i = c.loop.invariant g limit p in
    let v = (c.sweep.ensures g limit i.1).0 in
    let o = p.held.remaining in
    (shrunk_more g limit _ _ _ i.0 v.shrunk, swept_settled g limit _ _ o.operators_are o.rides_are _ _ _ v (omega (arith, c.loop-test.false)))

pub loop-preserved : goal.loop-preserved
loop-preserved c = λ g limit p.
    let i = c.loop.invariant g limit p in
    let v = c.sweep.ensures g limit i.1 in
    (shrunk_more g limit _ _ _ i.0 v.0.shrunk, v.1)
