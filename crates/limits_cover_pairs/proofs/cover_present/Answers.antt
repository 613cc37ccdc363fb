-- `limits_cover_pairs::cover_present` meets its contract: the pairs whose nodes are both present, under the limits of a peel.
use borrow.Author.Rules.{rules}
use Rattle.model.specs.Graph.{own_limits}
use Rattle.limits_cover_pairs.proofs.Shown.{left_counted, left_shown}
use Rattle.limits_cover_pairs.proofs.cover_present.Goals as goal

pub count-requires : goal.count-requires
count-requires c = let a = c.args in
    let left = left_counted a.table.head a.table.operators.now a.table.rides.now a.asked.presence.now (own_limits a.table.head.operators a.asked.minimums.now a.asked.alpha a.asked.beta) _ c.fill.ensures a.marks.now _ (c.cover.ensures _ c.present-here.ensures) in
    (search rules, search rules, left.0, left.1)

pub returns : goal.returns
returns c = let a = c.args in
    left_shown a.table.head a.table.operators.now a.table.rides.now a.asked.presence.now (own_limits a.table.head.operators a.asked.minimums.now a.asked.alpha a.asked.beta) _ c.fill.ensures a.marks.now _ (c.cover.ensures _ c.present-here.ensures) _ c.count.ensures
