-- `index_sweeps::visit_side` meets its contract: the node stays, or its row is subtracted from the others' degrees.
use Prim.Native.Nat.{ℕ, ◌*◌, ◌≤◌}
use mathlib.Core.Path.{sym, subst}
use native.Mathlib.Omega.{arith}
use lib.ListN.{length, get_or}
use Rattle.model.proofs.Store.{part_length, part_at}
use Rattle.graph_tables.proofs.Place.{row_inside}
use Rattle.index_sweeps.proofs.Side.{falls_true, falls_kept, visited_removed, row_counted}
use Rattle.index_sweeps.proofs.visit_side.Goals as goal

pub subtract-requires : goal.subtract-requires
subtract-requires c =
    let a = c.args in
    let inside = row_inside (length a.kept.now) a.sweep.width a.i (length a.others.now) c.requires.1 c.requires.0.table.wide (length a.sweep.table.now) c.requires.0.table.size in
    let l = part_length a.sweep.table.now (a.i * a.sweep.width) (length a.others.now) inside in
    record { degrees_in_bounds = omega (arith, l); by_index = λ j h. subst (λ (z : ℕ). z ≤ get_or a.others.now j 0) (sym (part_at a.sweep.table.now (a.i * a.sweep.width) (length a.others.now) inside j 0 h)) (row_counted a.sweep.table.now a.sweep.width a.kept.now a.sweep.degrees.now a.levels.now a.others.now c.requires.0 a.i c.requires.1 j h (falls_kept a.kept.now a.sweep.degrees.now a.sweep.limit a.i (falls_true a.kept.now a.sweep.degrees.now a.sweep.limit a.i (c.requires.0.bits a.i c.requires.1) _ c.from.ensures c.if-kept-i-eq0.false))) }

pub returns : goal.returns
returns c =
    let a = c.args in
    let inside = row_inside (length a.kept.now) a.sweep.width a.i (length a.others.now) c.requires.1 c.requires.0.table.wide (length a.sweep.table.now) c.requires.0.table.size in
    visited_removed a.sweep.table.now a.sweep.width a.kept.now a.sweep.degrees.now a.levels.now a.others.now a.sweep.limit a.sweep.level a.i _ (falls_true a.kept.now a.sweep.degrees.now a.sweep.limit a.i (c.requires.0.bits a.i c.requires.1) _ c.from.ensures c.if-kept-i-eq0.false)
    (λ j h. omega (arith, c.subtract.ensures j h, part_at a.sweep.table.now (a.i * a.sweep.width) (length a.others.now) inside j 0 h, c.requires.0.table.bits a.i j c.requires.1 h))
