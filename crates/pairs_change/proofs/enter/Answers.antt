-- `pairs_change::enter` meets its contract: a pair is inserted at the place that it is not listed at, or removed from the one that it is listed at.
use mathlib.Core.Path.{sym, ◌∙◌, subst}
use mathlib.Core.Bool.{Bool}
use Prim.Native.Nat.{◌+◌, ◌-◌}
use native.Mathlib.Omega.{arith}
use lib.Dec.{T}
use Rattle.pairs.proofs.Place.{room, listed_first}
use Rattle.pairs_change.specs.Change.{Listing, graph_with}
use Rattle.pairs_change.proofs.After.{listing_same, listing_more, listing_less}
use Rattle.pairs_change.proofs.enter.Goals as goal

pub insert-requires : goal.insert-requires
insert-requires c = let a = c.args in
    let found = c.in-true-Err.ensures in
    let fits = room a.head a.operators.now a.rides.now c.requires.0 a.operator a.ride c.requires.1 c.requires.2 (subst T (sym found.listed)) in
    (found.err.within, omega arith)

pub insert-requires-in-true-Err : goal.insert-requires-in-true-Err
insert-requires-in-true-Err c = let a = c.args in
    let found = c.in-true-Err.ensures in
    let fits = room a.head a.operators.now a.rides.now c.requires.0 a.operator a.ride c.requires.1 c.requires.2 (subst T (sym found.listed)) in
    (found.err.within, omega arith)

pub remove-requires : goal.remove-requires
remove-requires c = let a = c.args in
    let found = c.in-false-Ok.ensures in
    ((listed_first a.head a.operators.now a.rides.now c.requires.0 a.operator a.ride _ found.ok (subst T found.listed tt)).0, c.requires.0.operators_long)

pub remove-requires-in-false-Ok : goal.remove-requires-in-false-Ok
remove-requires-in-false-Ok c = let a = c.args in
    let found = c.in-false-Ok.ensures in
    ((listed_first a.head a.operators.now a.rides.now c.requires.0 a.operator a.ride _ found.ok (subst T found.listed tt)).0, c.requires.0.rides_long)

pub overflow_sub-result : goal.overflow_sub-result
overflow_sub-result c = let a = c.args in
    let found = c.in-false-Ok.ensures in
    omega (arith, (listed_first a.head a.operators.now a.rides.now c.requires.0 a.operator a.ride _ found.ok (subst T found.listed tt)).0)

pub returns-in-true-Err : goal.returns-in-true-Err
returns-in-true-Err c = let a = c.args in
    let found = c.in-true-Err.ensures in
    let fits = room a.head a.operators.now a.rides.now c.requires.0 a.operator a.ride c.requires.1 c.requires.2 (subst T (sym found.listed)) in
    subst (λ (b : Bool). Listing a.head (graph_with a.head a.operators.now a.rides.now a.operator a.ride b) a.operators.now a.rides.now (a.head.pairs + 1) c.insert.new.array c.insert-in-true-Err.new.array) (sym c.in-true-Err.is-0)
    (listing_more a.head a.operators.now a.rides.now c.requires.0 a.operator a.ride c.requires.1 c.requires.2 _ found.err _ _ (subst T (sym found.listed)) c.insert.ensures c.insert-in-true-Err.ensures (omega arith) (omega arith))

pub returns-in-false-Ok : goal.returns-in-false-Ok
returns-in-false-Ok c = let a = c.args in
    let found = c.in-false-Ok.ensures in
    subst (λ (b : Bool). Listing a.head (graph_with a.head a.operators.now a.rides.now a.operator a.ride b) a.operators.now a.rides.now (a.head.pairs - 1) c.remove.new.array c.remove-in-false-Ok.new.array) (sym c.in-false-Ok.is-0)
    (listing_less a.head a.operators.now a.rides.now c.requires.0 a.operator a.ride c.requires.1 c.requires.2 _ found.ok _ _ (subst T found.listed tt) c.remove.ensures c.remove-in-false-Ok.ensures (omega (arith, c.requires.0.operators_long)) (omega (arith, c.requires.0.rides_long)))

pub returns-in_default : goal.returns-in_default
returns-in_default c = let a = c.args in
    listing_same a.head a.operators.now a.rides.now c.requires.0 a.operator a.ride a.grant (sym c.in_default.ensures.listed ∙ sym c.in_default.is-0)

pub returns-in_default-2 : goal.returns-in_default-2
returns-in_default-2 c = let a = c.args in
    listing_same a.head a.operators.now a.rides.now c.requires.0 a.operator a.ride a.grant (sym c.in_default.ensures.listed ∙ sym c.in_default.is-0)
