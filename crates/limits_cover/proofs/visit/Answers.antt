-- `limits_cover::visit` meets its contract.
use native.Mathlib.Omega.{arith}
use Rattle.model.proofs.Peel.{short_marked}
use Rattle.limits_cover.proofs.Sweeps.{visited_kept, falls_short, visited_dropped}
use Rattle.limits_cover.proofs.visit.Goals as goal

pub returns-then-bytes-x : goal.returns-then-bytes-x
returns-then-bytes-x c = λ g limit p. (visited_kept g limit _ _ _ _ _ _ _ p.tables_are p.held _ c.requires.1 (omega (arith, c.if-bytes-x.true)), p)

pub drop_node-requires : goal.drop_node-requires
drop_node-requires c = let p = c.requires.0 in
    (p, c.requires.1, short_marked p.0 p.1 _ _ (falls_short p.0 p.1 _ _ _ _ _ _ _ p.2.tables_are p.2.held _ c.requires.1 (omega (arith, c.if-bytes-x.false))))

pub returns : goal.returns
returns c = λ g limit p. let d = c.drop_node.ensures g limit p in
    (visited_dropped g limit _ _ _ _ _ _ _ p.tables_are p.held _ c.requires.1 (omega (arith, c.if-bytes-x.false)) _ d.marks_are, record { tables_are = p.tables_are; held = d.held })
