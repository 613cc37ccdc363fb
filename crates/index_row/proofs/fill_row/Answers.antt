-- `index_row::fill_row` meets its contract: `raise`, from everybody.
use lib.ListN.{get_or-replicate}
use Rattle.index_row.proofs.Rows.{row_start}
use Rattle.index_row.proofs.fill_row.Goals as goal

pub raise-requires-clause-start : goal.raise-requires-clause-start
raise-requires-clause-start c =
    let s = c.args.source in
    row_start s.tables.operators s.tables.rides s.tables.by_operator.now s.tables.by_ride.now s.tabulated.tables _ _ (λ i h. get_or-replicate 200 i 1 0 h) (λ i h. get_or-replicate 60 i 1 0 h) s.tabulated.degrees
