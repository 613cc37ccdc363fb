-- The sample of document 01 holds, and those of limits of 0.
use mathlib.Core.Path.{refl}
use Rattle.model.specs.Count
use Rattle.model.specs.Graph
use Rattle.model.specs.Layout
use Rattle.model.specs.Refusal
use Rattle.cover_text.specs.Text
use Rattle.cover_report.specs.Program
use Rattle.cover_report.specs.Program.{cover_text}
use Rattle.cover_report.specs.Sample.{Printed}

pub samples_hold : Printed
unfolding cover_text Program.cover_refusal Program.cover_lines Text.report_text Text.member_lines Text.node_line Text.first_line Text.refusal_line Text.decimal Text.digits Count.count Count.some Count.lowest Count.values Graph.degree Graph.limits Graph.short Graph.settled Graph.removals Graph.without Graph.peel Graph.cover_under Graph.cover Graph.level_to Graph.level Layout.listed Refusal.misplaced Refusal.refused_5 Refusal.first_number
samples_hold = record { sample = refl; no_alpha = refl; no_beta = refl; no_row = refl }
