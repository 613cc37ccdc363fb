-- `index_row::WorkArrays::round` meets its contract: both sweeps remove only who is outside the cover.
use Rattle.std.proofs.Common.{arith}
use Rattle.index_row.proofs.Arrays.{rides_whole, arrays_rounded}
use Rattle.index_row.proofs.Rows.{arrays_fit}
use Rattle.index_row.proofs.WorkArrays.round.Goals as goal

pub sweep_side-requires : goal.sweep_side-requires
sweep_side-requires c = let a = c.args in
    let t = a.source.tables in
    let p = c.requires in
    let fits = arrays_fit t.operators t.rides t.by_operator.now t.by_ride.now a.source.tabulated.tables a.self.now a.row.now (omega arith) (omega arith) (omega arith) (omega arith) p.sizes.2 in
    rides_whole t.operators t.rides t.by_operator.now t.by_ride.now a.alpha a.beta p.sizes.0 p.sizes.1 a.self.now a.row.now fits p.raising

pub returns : goal.returns
returns c = let a = c.args in
    let t = a.source.tables in
    let p = c.requires in
    let fits = arrays_fit t.operators t.rides t.by_operator.now t.by_ride.now a.source.tabulated.tables a.self.now a.row.now (omega arith) (omega arith) (omega arith) (omega arith) p.sizes.2 in
    let v = c.sweep_side in
    let u = c.sweep_side-2 in
    arrays_rounded t.operators t.rides t.by_operator.now t.by_ride.now a.alpha a.beta p.sizes.0 p.sizes.1 a.self.now a.row.now fits p.raising
    c.from-level.result _ _ _ _ c.from-level.ensures (omega arith) (omega arith) (omega arith) v.ensures
    u.result u.new.kept u.new.levels u.new.others (omega arith) (omega arith) (omega arith) u.ensures
