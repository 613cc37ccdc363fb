-- `graph_drops::drop_node` meets its contract.
use native.Mathlib.Omega.{arith}
use Rattle.graph_drops.proofs.Drop.{dropped}
use Rattle.graph_drops.proofs.drop_node.Goals as goal

pub subtract_row-requires : goal.subtract_row-requires
subtract_row-requires c = let p = c.requires.0.2 in ((c.requires.0.0, c.args.marks.now, p.tables_are, p.held.remaining, c.requires.2), c.requires.1)

pub returns : goal.returns
returns c = λ g limit p. let held = p.held in
    let t = p.tables_are in
    let o = held.remaining in
    dropped g limit _ _ c.args.bytes.now.limits c.args.marks.now held.room held.limits_long held.limits_are _ (omega (arith, c.requires.1, o.operators_are, o.rides_are)) (omega (arith, t.by_ride.wide, t.by_operator.wide)) _ (c.subtract_row.ensures g _ t o c.requires.2)
