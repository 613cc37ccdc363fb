-- `peel_pairs::peel_over` meets its contract: the pairs between nodes that are here are tabulated, the list has the limits of the nodes, and `peel_tables` does the rest.
use mathlib.Core.Path.{ap, ◌∙◌}
use native.Mathlib.Omega.{arith}
use Rattle.model.specs.Calls.{PeelOutcome}
use Rattle.graph_tables.proofs.Held.{zero_tables}
use Rattle.peel_pairs.proofs.Marked.{marked_ready, marked_peeled}
use Rattle.peel_pairs.proofs.peel_over.Goals as goal

pub tabulate-degrees-requires : goal.tabulate-degrees-requires
tabulate-degrees-requires c = ((_, c.present_and_marked-here.ensures), zero_tables)

pub peel_tables-requires : goal.peel_tables-requires
peel_tables-requires c = let a = c.args in
    let read = c.tabulate-degrees.ensures _ c.present_and_marked-here.ensures in
    ((_, marked_ready a.table.head a.table.operators.now a.table.rides.now a.asked.presence.now a.marks.now c.requires.1 _ _ read.degrees, read.tables), omega (arith, a.table.accepted.few_operators, a.table.accepted.few_rides))

pub returns : goal.returns
returns c = let a = c.args in
    let read = c.tabulate-degrees.ensures _ c.present_and_marked-here.ensures in
    let p = c.peel_tables.ensures _ (marked_ready a.table.head a.table.operators.now a.table.rides.now a.asked.presence.now a.marks.now c.requires.1 _ _ read.degrees) read.tables in
    let e = marked_peeled a.table.head a.table.operators.now a.table.rides.now a.asked.presence.now a.marks.now _ _ c.fill.ensures a.steps in
    record { answer = p.answer ∙ ap (λ (o : PeelOutcome). o.answer) e; marks = p.marks ∙ ap (λ (o : PeelOutcome). o.marks) e }
