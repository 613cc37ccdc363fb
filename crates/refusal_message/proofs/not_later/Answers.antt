-- `refusal_message::not_later` meets its contract: the slot says whose last it is.
use mathlib.Core.Path.{subst}
use Prim.Native.Nat.{◌≤◌}
use native.Mathlib.Omega.{arith}
use Rattle.model.proofs.Refusal.{slot_pair, Within, valid_none}
use Rattle.part_presence.proofs.Presence.{place_within}
use Rattle.refusal_message.proofs.Message.{pair_kind, other_kind}
use Rattle.refusal_message.proofs.not_later.Goals as goal

pub not_later-requires : goal.not_later-requires
not_later-requires c = let a = c.args in
    let r = c.requires.ready in
    let k : a.message.kind ≤ 2 = pair_kind a.message _ _ c.in-Pair.ensures in
    let w = subst (Within a.board.head) (slot_pair a.message k) (valid_none a.board.head a.message c.requires.valid).within in
    (r.stamps_long, r.revisions_long, w.0, w.1, k)

pub not_later-requires-in_default : goal.not_later-requires-in_default
not_later-requires-in_default c = let a = c.args in
    let r = c.requires.ready in
    let k : 3 ≤ a.message.kind = other_kind a.message _ c.from.ensures c.in_default.not-Pair in
    let l = place_within a.board.head a.message k (valid_none a.board.head a.message c.requires.valid).within in
    record { kind = k; stamps = omega (arith, l, r.presence_stamps_long); revisions = omega (arith, l, r.presence_revisions_long); words = omega (arith, l, r.presence_long) }

pub returns-in-Pair : goal.returns-in-Pair
returns-in-Pair c = let b = c.args.board in
    λ index. c.not_later.ensures index b.presence_stamps.now b.presence_revisions.now b.presence.now

pub returns-in_default : goal.returns-in_default
returns-in_default c = let b = c.args.board in
    c.not_later-in_default.ensures b.operators.now b.rides.now b.stamps.now b.revisions.now
