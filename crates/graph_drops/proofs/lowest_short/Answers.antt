-- `graph_drops::lowest_short` meets its contract. The loop's invariant: none of the nodes passed falls short.
use borrow.Author.Count.{below_more}
use mathlib.Core.Path.{refl, sym}
use native.Mathlib.Omega.{arith}
use lib.Dec.{ltb→lt, lt→ltb}
use lib.ListN.{get_or}
use Rattle.model.proofs.Search.{lowest_found, lowest_none}
use Rattle.graph_drops.proofs.lowest_short.Goals as goal

pub loop-x-init : goal.loop-x-init
loop-x-init c = c.requires.2

pub returns-then-degrees-x : goal.returns-then-degrees-x
returns-then-degrees-x c = let l = c.loop-x in (omega arith, lowest_found _ _ _ (omega arith) l.invariant (lt→ltb _ _ c.if-degrees-x.true))

pub loop-x-preserved : goal.loop-x-preserved
loop-x-preserved c = let l = c.loop-x in
    let a = c.args in
    below_more _ _ l.invariant (λ t. let z : ⊥ = omega (arith, ltb→lt (get_or a.degrees.now l.x 0) (get_or a.limits.now l.x 0) t, c.if-degrees-x.false) in z)

pub returns : goal.returns
returns c = let l = c.loop-x in sym (lowest_none _ c.args.nodes c.args.nodes refl (λ y k t. l.invariant y (omega arith) t))
