-- `message_entry::enter` meets its contract: the slot says what the message is entered for.
use mathlib.Core.Path.{ap, ◌∙◌}
use native.Mathlib.Omega.{arith}
use Prim.Native.Nat.{◌≤◌}
use Rattle.model.specs.Layout.{Operators, Rides, PresenceStamps, PresenceRevisions, Presence, Board}
use Rattle.part_board.specs.Lent.{mut_board}
use Rattle.refusal_message.proofs.Message.{pair_kind, other_kind}
use Rattle.message_entry.specs.Enter.{with_index}
use Rattle.message_entry.proofs.AnyIndex.{entered_any}
use Rattle.message_entry.proofs.Entering.{node_within, node_entered}
use Rattle.message_entry.proofs.enter.Goals as goal

pub enter_pair-requires : goal.enter_pair-requires
enter_pair-requires c = record { ready = c.requires; pair = pair_kind c.args.message _ _ c.in-Pair.ensures }

pub returns-in-Pair-clause-any_index : goal.returns-in-Pair-clause-any_index
returns-in-Pair-clause-any_index c = λ index.
    ap (λ (b : Board). with_index b index) c.enter_pair.ensures.done ∙ entered_any (mut_board c.args.board.now) index c.args.message

pub store-requires : goal.store-requires
store-requires c = let long = c.requires.room.long in
    let k : 3 ≤ c.args.message.kind = other_kind c.args.message _ c.from.ensures c.in_default.not-Pair in
    let w = node_within (mut_board c.args.board.now) c.args.message c.requires k in
    record { stamps = omega (arith, w, long PresenceStamps tt); revisions = omega (arith, w, long PresenceRevisions tt); words = omega (arith, w, long Presence tt) }

pub clear_tails-requires : goal.clear_tails-requires
clear_tails-requires c = let r = c.requires.room in (r.pairs, r.long Operators tt, r.long Rides tt)

pub returns-in_default-clause-done : goal.returns-in_default-clause-done
returns-in_default-clause-done c = let s = c.store.ensures in
    let k : 3 ≤ c.args.message.kind = other_kind c.args.message _ c.from.ensures c.in_default.not-Pair in
    node_entered (mut_board c.args.board.now) c.args.message c.requires k _ _ _ _ _ (s.stamps, s.revisions, s.words) c.clear_tails.ensures

pub returns-in_default-clause-any_index : goal.returns-in_default-clause-any_index
returns-in_default-clause-any_index c = let s = c.store.ensures in
    let k : 3 ≤ c.args.message.kind = other_kind c.args.message _ c.from.ensures c.in_default.not-Pair in
    let b = mut_board c.args.board.now in
    λ index.
    ap (λ (x : Board). with_index x index) (node_entered b c.args.message c.requires k _ _ _ _ _ (s.stamps, s.revisions, s.words) c.clear_tails.ensures) ∙
    entered_any b index c.args.message
