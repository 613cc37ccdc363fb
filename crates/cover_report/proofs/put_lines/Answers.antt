-- `cover_report::put_lines` meets its contract.
use mathlib.Core.Path.{ap, ◌∙◌}
use Prim.Native.Nat.{ℕ}
use native.Mathlib.Omega.{arith}
use Rattle.model.specs.Graph.{row}
use Rattle.model.specs.Layout.{graph}
use Rattle.cover_report.proofs.Report.{report_row}
use Rattle.cover_text.proofs.Write.{wrote_text}
use Rattle.cover_report.proofs.put_lines.Goals as goal

pub fill_levels-requires : goal.fill_levels-requires
fill_levels-requires c =
    record { row = (omega (arith, c.row.ensures), c.requires.row); zeros = c.requires.zeros }

pub returns : goal.returns
returns c =
    let a = c.args in
    wrote_text
    (report_row a.table.head a.table.operators.now a.table.rides.now a.alpha a.beta _ (c.fill_levels.ensures ∙ ap (λ (k : ℕ). row (graph a.table.head a.table.operators.now a.table.rides.now) k) c.row.ensures))
    c.put_cover.ensures
