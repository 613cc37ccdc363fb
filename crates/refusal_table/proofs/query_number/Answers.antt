-- `refusal_table::query_number` meets its contract: its numbers in ascending order.
use native.Mathlib.Omega.{arith}
use Rattle.pairs.proofs.Place.{product_fits}
use Rattle.refusal_table.proofs.Chain.{query_first}
use Rattle.refusal_table.proofs.query_number.Goals as goal

pub overflow_mul-m : goal.overflow_mul-m
overflow_mul-m c = let h = c.args.head in omega (arith, product_fits h.operators h.rides (omega arith) (omega arith), product_fits h.rides h.rides (omega arith) (omega arith))

pub returns : goal.returns
returns c = let a = c.args in
    query_first a.head a.index.now a.presence.now a.marks.now _ _ _ _ _ c.first.ensures c.first-2.ensures c.first-short.ensures c.first-3.ensures c.first-4.ensures
