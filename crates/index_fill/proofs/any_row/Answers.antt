-- `index_fill::any_row` meets its contract: above the largest degree of an operator every level is 0.
use Rattle.std.proofs.Common.{arith, rules, ◌≡◌, ℕ, ◌<◌, length, get_or}
use Rattle.index_row.specs.Source.{graph_of}
use Rattle.index_fill.proofs.Index.{zero_row}
use Rattle.index_fill.proofs.any_row.Goals as goal

pub returns-then-high-alpha : goal.returns-then-high-alpha
returns-then-high-alpha c = let a = c.args in
    let zeros : (i : ℕ) → i < length a.row.now → get_or c.fill.new.self i 0 ≡ 0 = search rules in
    zero_row (graph_of a.source.tables) a.alpha a.high a.source.degrees.now.operators (omega arith) a.source.tabulated.degrees.operator_degrees c.requires.by_index c.fill.new.self (omega (arith, c.requires.sizes.1)) (λ i h. zeros i (omega (arith, c.requires.sizes.1)))
