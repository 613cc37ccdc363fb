-- `index_row::WorkArrays::settle_row` meets its contract. The loop's invariant: no member of the cover is removed, and whoever is removed has its level; each turn but the last removes an operator.
use Rattle.std.proofs.Common.{◌≡◌, length}
use Rattle.model.specs.Count.{count}
use Rattle.model.specs.Graph.{nodes, marked}
use Rattle.index_row.specs.Row.{Raising}
use Rattle.index_row.specs.Source.{graph_of, lists}
use Rattle.index_row.proofs.WorkArrays.settle_row.Given as goal

abbrev pub invariant-loop : goal.invariant-loop
invariant-loop l = (length l.row ≡ nodes (graph_of l.source.tables)) ×
    Raising (graph_of l.source.tables) l.alpha l.beta (lists l.source.tables l.self l.row)

abbrev pub decreases-loop : goal.decreases-loop
decreases-loop l = count l.source.tables.operators (marked (lists l.source.tables l.self l.row).operators)
