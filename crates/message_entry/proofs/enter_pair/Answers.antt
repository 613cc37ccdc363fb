-- `message_entry::enter_pair` meets its contract: the stamp and the revision stored and the pair arrays changed are what the board then says.
use native.Mathlib.Omega.{arith}
use Rattle.model.specs.Layout.{Operators, Rides, Stamps, Revisions}
use Rattle.model.specs.Contents.{entry}
use Rattle.part_board.specs.Lent.{mut_board}
use Rattle.message_entry.proofs.Entering.{place_inside, pair_within, pair_entered}
use Rattle.message_entry.proofs.enter_pair.Goals as goal

pub store-requires : goal.store-requires
store-requires c = let r = c.requires.ready in
    let m = c.args.message in
    let b = mut_board c.args.board.now in
    let w = pair_within b m r c.requires.pair in
    let p = place_inside b m.operator m.ride (entry m) w.0 w.1 in
    (omega (arith, p, r.room.long Stamps tt), omega (arith, p, r.room.long Revisions tt))

pub change-board-requires : goal.change-board-requires
change-board-requires c = let r = c.requires.ready in
    let w = pair_within (mut_board c.args.board.now) c.args.message r c.requires.pair in
    (r.room.pairs, w.0, w.1, r.room.long Operators tt, r.room.long Rides tt)

pub returns-clause-done : goal.returns-clause-done
returns-clause-done c = pair_entered (mut_board c.args.board.now) c.args.message c.requires.ready c.requires.pair _ c.gives.ensures _ _ _ _ _ c.store.ensures c.change-board.ensures
