-- `index_row::WorkArrays::raise` meets its contract. The loop's invariant: the kept lie between cover (α, β) and cover (α, β - 1), and whoever is removed has its level; β grows.
use Rattle.std.proofs.Common.{arith, refl, ◌≡◌, length}
use Rattle.model.specs.Graph.{nodes}
use Rattle.index_row.specs.Source.{graph_of, lists}
use Rattle.index_row.proofs.Raising.{raising_start, raising_next, raising_end, least_high}
use Rattle.index_row.proofs.Rows.{least_first}
use Rattle.index_row.proofs.WorkArrays.raise.Goals as goal

pub loop-low-init : goal.loop-low-init
loop-low-init c =
    let a = c.args in
    let t = a.source.tables in
    (omega arith, omega arith, c.requires.sizes.1, raising_start t.operators t.rides t.by_operator.now t.by_ride.now a.alpha c.requires.sizes.0 (lists t a.self.now a.row.now) a.source.tabulated.tables c.requires.sizes.1 c.requires.start)

pub returns-in_default : goal.returns-in_default
returns-in_default c =
    let a = c.args in
    let t = a.source.tables in
    let l = c.loop-low in
    let w = c.settle_row.new in
    let e = c.settle_row.ensures in
    let long : length w.row ≡ nodes (graph_of t) = omega (arith, l.invariant.2) in
    let least = least_first t.rides w.self.rides w.self.ride_degrees 255 c.in_default.ensures in
    raising_end t.operators t.rides t.by_operator.now t.by_ride.now a.alpha c.requires.sizes.0 (lists t w.self w.row) a.source.tabulated.tables long l.beta l.invariant.0 e.0 e.1 255 least refl

pub loop-low-smaller : goal.loop-low-smaller
loop-low-smaller c =
    let a = c.args in
    let t = a.source.tables in
    let l = c.loop-low in
    let w = c.settle_row.new in
    let e = c.settle_row.ensures in
    let long : length w.row ≡ nodes (graph_of t) = omega (arith, l.invariant.2) in
    let least = least_first t.rides w.self.rides w.self.ride_degrees c.in-Some.low c.in-Some.ensures.1 in
    omega (arith, l.invariant.1, least_high t.operators t.rides t.by_operator.now t.by_ride.now a.alpha c.requires.sizes.0 (lists t w.self w.row) a.source.tabulated.tables long l.beta l.invariant.0 e.0 e.1 c.in-Some.low least l.invariant.1)

pub loop-low-preserved : goal.loop-low-preserved
loop-low-preserved c =
    let a = c.args in
    let t = a.source.tables in
    let l = c.loop-low in
    let w = c.settle_row.new in
    let e = c.settle_row.ensures in
    let long : length w.row ≡ nodes (graph_of t) = omega (arith, l.invariant.2) in
    let least = least_first t.rides w.self.rides w.self.ride_degrees c.in-Some.low c.in-Some.ensures.1 in
    (omega arith, omega (arith, c.in-Some.ensures.0), omega (arith, l.invariant.2), raising_next t.operators t.rides t.by_operator.now t.by_ride.now a.alpha c.requires.sizes.0 (lists t w.self w.row) a.source.tabulated.tables long l.beta l.invariant.0 e.0 e.1 c.in-Some.low least (least_high t.operators t.rides t.by_operator.now t.by_ride.now a.alpha c.requires.sizes.0 (lists t w.self w.row) a.source.tabulated.tables long l.beta l.invariant.0 e.0 e.1 c.in-Some.low least l.invariant.1))
