-- `index_row::WorkArrays::raise` meets its contract. The loop's invariant: the kept lie between cover (α, β) and cover (α, β - 1), and whoever is removed has its level; β grows.
use Rattle.std.proofs.Common.{◌≡◌, ◌≤◌, ◌-◌, length}
use Rattle.model.specs.Graph.{nodes}
use Rattle.index_row.specs.Row.{Raising}
use Rattle.index_row.specs.Source.{graph_of, lists}
use Rattle.index_row.proofs.WorkArrays.raise.Given as goal

abbrev pub invariant-loop-low : goal.invariant-loop-low
invariant-loop-low l = (1 ≤ l.beta) ×
    (l.beta ≤ 255) ×
    (length l.row ≡ nodes (graph_of l.source.tables)) ×
    Raising (graph_of l.source.tables) l.alpha l.beta (lists l.source.tables l.self l.row)

abbrev pub decreases-loop-low : goal.decreases-loop-low
decreases-loop-low l = 256 - l.beta
