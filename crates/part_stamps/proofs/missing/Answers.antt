-- `part_stamps::missing` meets its contract. The loop's invariant: the pairs at the places passed have stamps.
use native.Mathlib.Omega.{arith}
use Rattle.model.specs.Layout.{lent}
use Rattle.pairs.proofs.Order.{accepted_range}
use Rattle.graph_tables.proofs.Place.{place_lt}
use Rattle.part_stamps.proofs.Tests.{one_unstamped, all_stamped}
use Rattle.part_stamps.proofs.missing.Goals as goal

pub bounds-stamps-place : goal.bounds-stamps-place
bounds-stamps-place c = let t = c.args.table in
    let r = accepted_range t.head _ _ t.accepted c.loop-k.k (omega arith) in
    omega (arith, c.place.ensures, place_lt t.head.operators t.head.rides _ _ r.0 r.1 _ c.requires)

pub returns-then-stamps-place-eq0 : goal.returns-then-stamps-place-eq0
returns-then-stamps-place-eq0 c = let a = c.args in
    let t = a.table in
    λ revisions index stamps' revisions' presence. one_unstamped (lent t.head t.operators.now t.rides.now a.stamps.now revisions index stamps' revisions' presence) c.loop-k.k (omega arith) (rw c.place.ensures at c.if-stamps-place-eq0.true)

pub returns : goal.returns
returns c = let a = c.args in
    let t = a.table in
    λ revisions index stamps' revisions' presence. all_stamped (lent t.head t.operators.now t.rides.now a.stamps.now revisions index stamps' revisions' presence) (λ i h. c.loop-k.invariant i (omega arith))
