-- `cover_report::fill_levels` meets its contract: tables of zeros are filled, and one row from them.
use mathlib.Core.Path.{◌∙◌}
use native.Mathlib.Omega.{arith}
use Rattle.model.specs.Layout.{graph}
use Rattle.graph_tables.proofs.Held.{zero_tables}
use Rattle.graph_degrees.proofs.Reading.{tabulated}
use Rattle.cover_report.proofs.Filled.{everybody_here, held_row}
use Rattle.cover_report.proofs.Report.{row_above}
use Rattle.cover_report.proofs.fill_levels.Goals as goal

pub tabulate-degrees-requires : goal.tabulate-degrees-requires
tabulate-degrees-requires c = let p = c.args.table.accepted in ((_, everybody_here _ (omega (arith, p.few_operators, p.few_rides))), zero_tables)

pub invariant_of-source : goal.invariant_of-source
invariant_of-source c = let p = c.args.table.accepted in
    let read = c.tabulate-degrees.ensures _ (everybody_here _ (omega (arith, p.few_operators, p.few_rides))) in
    record { tabulated = tabulated _ _ _ _ _ read.tables read.degrees }

pub returns-then-alpha-table : goal.returns-then-alpha-table
returns-then-alpha-table c =
    let t = c.args.table in
    let p = t.accepted in
    c.fill_row.ensures ∙ held_row (graph t.head t.operators.now t.rides.now) _ _ (c.tabulate-degrees.ensures _ (everybody_here _ (omega (arith, p.few_operators, p.few_rides)))).tables c.args.alpha

pub returns-else-alpha-table : goal.returns-else-alpha-table
returns-else-alpha-table c =
    let a = c.args in
    row_above (graph a.table.head a.table.operators.now a.table.rides.now) a.alpha c.if-alpha-table.false a.row.now c.requires.row.1 c.requires.zeros
