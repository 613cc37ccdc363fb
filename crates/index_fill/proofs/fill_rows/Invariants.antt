-- `index_fill::fill_rows` meets its contract. The loop's invariant: the first a rows are stored, and differ counts their words that differ.
use Prim.Native.Nat.{suc, ◌*◌}
use mathlib.Core.Path.{◌≡◌}
use mathlib.Core.List.{◌++◌}
use lib.ListN.{length, drop}
use Rattle.model.specs.Count.{rows}
use Rattle.model.specs.Graph.{level}
use Rattle.model.specs.Layout.{differing}
use Rattle.graph_tables.specs.Table.{table_graph}
use Rattle.index_fill.proofs.fill_rows.Given as goal

abbrev pub invariant-loop-a : goal.invariant-loop-a
invariant-loop-a l = (length l.row ≡ l.w) ×
    (length l.index ≡ length l.initial.index) ×
    (l.index ≡ rows l.a l.w (λ b x. level (table_graph l.source.tables.operators l.source.tables.rides l.source.tables.by_operator.now) (suc b) x) ++ drop (l.a * l.w) l.initial.index) ×
    (l.differ ≡ differing (l.a * l.w) l.initial.index (rows l.source.tables.rides l.w (λ b x. level (table_graph l.source.tables.operators l.source.tables.rides l.source.tables.by_operator.now) (suc b) x)))
