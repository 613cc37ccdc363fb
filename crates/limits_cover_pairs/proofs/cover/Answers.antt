-- `limits_cover_pairs::cover` meets its contract: the pairs whose nodes are both here are tabulated, and `limits_cover::cover` does the rest.
use Rattle.graph_tables.proofs.Held.{zero_tables}
use Rattle.limits_cover_pairs.proofs.Pairs.{read_over}
use Rattle.limits_cover_pairs.proofs.cover.Goals as goal

pub tabulate-degrees-requires : goal.tabulate-degrees-requires
tabulate-degrees-requires c = (c.requires.0, zero_tables)

pub cover-requires : goal.cover-requires
cover-requires c = let a = c.args in ((_, read_over a.table.head a.table.operators.now a.table.rides.now c.requires.0.0 _ _ _ _ (c.tabulate-degrees.ensures c.requires.0.0 c.requires.0.1)), c.requires.1, c.requires.2)

pub returns : goal.returns
returns c = λ here b. let a = c.args in c.cover.ensures _ (read_over a.table.head a.table.operators.now a.table.rides.now here _ _ _ _ (c.tabulate-degrees.ensures here b))
