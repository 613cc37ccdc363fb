-- `call_build::fill_parts` meets its contract: it stamps the pairs, zeroes the revisions, sets everybody on and in, fills the index and zeroes the tails.
use native.Mathlib.Omega.{arith}
use Rattle.model.specs.Layout.{Operators, Rides, Stamps, Revisions, Index, PresenceStamps, PresenceRevisions, Presence}
use Rattle.part_board.specs.Lent.{mut_board}
use Rattle.pairs.proofs.Place.{product_small}
use Rattle.call_build.proofs.Builds.{build_table, build_pairs, build_done}
use Rattle.call_build.proofs.fill_parts.Goals as goal

pub overflow_mul-places : goal.overflow_mul-places
overflow_mul-places c = let h = c.args.board.now.head in
    let t = build_table (mut_board c.args.board.now) c.args.start c.requires in
    omega (arith, product_small h.operators h.rides t.few_operators t.few_rides)

pub invariant_of-table : goal.invariant_of-table
invariant_of-table c = record { accepted = build_pairs (mut_board c.args.board.now) c.args.start c.requires }

pub fill-requires : goal.fill-requires
fill-requires c = (build_table (mut_board c.args.board.now) c.args.start c.requires).long Stamps

pub fill-requires-2 : goal.fill-requires-2
fill-requires-2 c = (omega arith, (build_table (mut_board c.args.board.now) c.args.start c.requires).long Revisions)

pub set_all-requires : goal.set_all-requires
set_all-requires c = let l = (build_table (mut_board c.args.board.now) c.args.start c.requires).long in
    record { stamps = l PresenceStamps; revisions = l PresenceRevisions; words = l Presence }

pub fill_index-requires : goal.fill_index-requires
fill_index-requires c = let l = (build_table (mut_board c.args.board.now) c.args.start c.requires).long in
    (omega (arith, l Presence), l Index)

pub clear_tails-requires : goal.clear_tails-requires
clear_tails-requires c = let b = mut_board c.args.board.now in
    let l = (build_table b c.args.start c.requires).long in
    (build_pairs b c.args.start c.requires, l Operators, l Rides)

pub returns-clause-outcome : goal.returns-clause-outcome
returns-clause-outcome c = let s = c.set_all.ensures in
    build_done (mut_board c.args.board.now) c.args.start c.requires _ _ _ _ _ _ _ _ c.clear_tails.ensures c.fill.ensures c.fill-2.ensures c.fill_index.ensures.0 (s.stamps, s.revisions, s.words)
