-- `index_fill::fill_index` meets its contract: the tables hold the pairs that count, and every row is filled from them.
use Rattle.std.proofs.Common.{List, ℕ, ap, ◌∙◌}
use Rattle.model.specs.Layout.{over, index_places, differing}
use Rattle.graph_tables.proofs.Held.{zero_tables}
use Rattle.graph_degrees.proofs.Reading.{tabulated}
use Rattle.index_fill.proofs.Index.{held_index}
use Rattle.index_fill.proofs.fill_index.Goals as goal

pub tabulate-degrees-requires : goal.tabulate-degrees-requires
tabulate-degrees-requires c = ((_, c.present-here.ensures), zero_tables)

pub invariant_of-source : goal.invariant_of-source
invariant_of-source c = let read = c.tabulate-degrees.ensures _ c.present-here.ensures in
    record { tabulated = tabulated _ _ _ _ _ read.tables read.degrees }

pub returns : goal.returns
returns c = let a = c.args in
    let v = c.fill_rows.ensures in
    let e = held_index _ _ _ (c.tabulate-degrees.ensures _ c.present-here.ensures).tables in
    (v.0 ∙ ap (λ (z : List ℕ). over z a.index.now) e, v.1 ∙ ap (λ (z : List ℕ). differing (index_places a.table.head) a.index.now z) e)
