-- `pairs_change::change` meets its contract: the pairs are those after the message, which fit, and their tails are zero.
use native.Mathlib.Omega.{arith}
use Rattle.model.proofs.Pairs.{length_numbers}
use Rattle.pairs.proofs.Place.{product_small}
use Rattle.pairs_change.specs.Change.{graph_with}
use Rattle.pairs_change.proofs.After.{tails_after}
use Rattle.pairs_change.proofs.change.Goals as goal

pub fill-requires : goal.fill-requires
fill-requires c = let a = c.args in
    (omega (arith, c.enter-count.ensures.pairs, length_numbers (graph_with a.head a.operators.now a.rides.now a.operator a.ride a.grant)), omega arith)

pub fill-requires-2 : goal.fill-requires-2
fill-requires-2 c = let a = c.args in
    (omega (arith, c.enter-count.ensures.pairs, length_numbers (graph_with a.head a.operators.now a.rides.now a.operator a.ride a.grant)), omega arith)

pub overflow_cast-result : goal.overflow_cast-result
overflow_cast-result c = let a = c.args in
    omega (arith, c.enter-count.ensures.pairs, length_numbers (graph_with a.head a.operators.now a.rides.now a.operator a.ride a.grant), product_small a.head.operators a.head.rides c.requires.0.few_operators c.requires.0.few_rides)

pub returns : goal.returns
returns c = let a = c.args in
    let g = graph_with a.head a.operators.now a.rides.now a.operator a.ride a.grant in
    tails_after a.head g _ _ _ _ _ c.enter-count.ensures (omega (arith, c.enter-count.ensures.pairs, length_numbers g)) _ _ c.fill.ensures c.fill-2.ensures
