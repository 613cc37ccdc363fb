-- Inner contracts: the work lists of a row as its work arrays hold them, and the graph of the tables that it is filled from.
use Rattle.std.specs.Prelude.{List, ℕ, ◌-◌, take}
use Rattle.model.specs.Graph.{Graph}
use Rattle.graph_tables.specs.Table.{table_graph}
use Rattle.graph_tables.specs.declared.ClearanceTables.{ClearanceTables}
use Rattle.index_row.specs.declared.WorkArrays.{WorkArrays}
use Rattle.index_row.specs.Row.{Work, work}

-- the clearance graph that the tables hold
abbrev pub graph_of : ClearanceTables → Graph
graph_of t = table_graph t.operators t.rides t.by_operator.now

-- the work lists of n operators and m rides, as `[0..n]` and `[0..m]` lend them of the arrays
abbrev pub first_lists : ℕ → ℕ → WorkArrays → List ℕ → Work
first_lists n m a levels = work (take (n - 0) a.operators) (take (n - 0) a.operator_degrees) (take (m - 0) a.rides) (take (m - 0) a.ride_degrees) levels

-- the work lists of the nodes that the tables are of
abbrev pub lists : ClearanceTables → WorkArrays → List ℕ → Work
lists t a levels = first_lists t.operators t.rides a levels
