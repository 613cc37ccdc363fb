-- The place of a message's operator or ride, what a board has there, and 10 of such a message.
use mathlib.Core.Path.{◌≡◌, refl, sym, ap, ◌∙◌}
use mathlib.Core.Bool.{Bool, ◌&&◌, ◌||◌, not}
use Prim.Native.Nat.{ℕ, ◌≤◌, ◌<◌}
use native.Mathlib.Omega.{arith}
use lib.Dec.{ltb, eqb}
use lib.ListN.{get_or}
use Rattle.model.specs.declared.Head.{Head}
use Rattle.model.specs.declared.Message.{Message}
use Rattle.model.specs.Count.{bit}
use Rattle.model.specs.Layout.{PresenceStamps, PresenceRevisions, Presence, Board, mark_places}
use Rattle.model.specs.Contents.{Entry, gives, later, slot, entry, contents, ride_place, entry_at}
use Rattle.model.specs.Refusal.{refused_10}
use Rattle.model.proofs.Count.{bit_test}
use Rattle.model.proofs.Refusal.{by_kind, Within}
use Rattle.part_presence.specs.Presence.{node_place}

module _ (h : Head) (m : Message) where
  -- in range it has a place
  pub place_within : 3 ≤ m.kind → Within h (slot m) → node_place h (slot m) < mark_places h
  place_within l =
      by_kind m (λ t. Within h t → node_place h t < mark_places h)
      (λ k. absurd (let z : ⊥ = omega arith in z))
      (λ k k' w. let z : m.operator < mark_places h = omega arith in z)
      (λ k w. let z : ride_place h m.ride < mark_places h = omega arith in z)

-- a message for an operator or ride speaks of what stands at its place
node_contents : (b : Board) (m : Message) → 3 ≤ m.kind → contents b (slot m) ≡ entry_at b (node_place b.head (slot m))
node_contents b m l =
    by_kind m (λ t. contents b t ≡ entry_at b (node_place b.head t))
    (λ k. absurd (let z : ⊥ = omega arith in z))
    (λ k k'. refl)
    (λ k. refl)

-- of a last entry it counts whether it gives
later_gives : (e f : Entry) → later e f ≡ later e (record { stamp = f.stamp; revision = f.revision; word = bit (gives f) })
later_gives e f =
    ap (λ (z : Bool). ltb f.stamp e.stamp || (eqb e.stamp f.stamp && (ltb f.revision e.revision || (eqb e.revision f.revision && (not (gives e) && z))))) (sym (bit_test (gives f)))

module _ (b : Board) (m : Message) (node : 3 ≤ m.kind) where
  abbrev at : ℕ
  at = node_place b.head (slot m)

  pub node_refused : not (later (entry m) (record { stamp = get_or (b.part PresenceStamps) at 0; revision = get_or (b.part PresenceRevisions) at 0; word = bit (eqb (get_or (b.part Presence) at 0) 1) })) ≡ refused_10 b m
  unfolding refused_10
  node_refused = ap not (sym (ap (later (entry m)) (node_contents b m node) ∙ later_gives (entry m) (entry_at b at)))
