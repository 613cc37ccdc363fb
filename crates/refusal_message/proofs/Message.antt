-- 6, a message's own numbers and 10, and their place behind 1 to 5.
use mathlib.Core.Path.{◌≡◌, refl, ap, ◌∙◌, subst}
use mathlib.Core.Logic.{◌≢◌}
use mathlib.Core.Bool.{Bool, true, false, ◌||◌}
use mathlib.Core.List.{List, [], ◌∷◌, ◌++◌}
use Prim.Native.Nat.{ℕ, ◌≤◌}
use native.Mathlib.Omega.{arith}
use lib.Dec.{T}
use lib.ListN.{length}
use Rattle.model.specs.declared.Message.{Message}
use Rattle.model.specs.Layout.{Part, Operators, Rides, Stamps, Revisions, PresenceStamps, PresenceRevisions, Presence, Parts, Board, places, of_parts}
use Rattle.model.specs.Refusal.{refused_3, refused_6, refused_10, board_short, first_number, table_cases, board_cases, valid_cases, message_cases, message_refusal, preview_refusal, list_refusal}
use Rattle.model.proofs.Count.{test_false, or_left}
use Rattle.model.proofs.Chain.{last_here, last_skip, Positive, front_is, behind_is}
use Rattle.model.proofs.Parts.{board_long}
use native.Mathlib.Decide.{dec_le}
use Rattle.model.specs.Contents.{Pair, Operator, Ride, slot}
use Rattle.model.proofs.Refusal.{table_unrefused, positive_valid, slot_pair, slot_operator, slot_ride}
use Rattle.refusal_table.proofs.Chain.{table_first, table_rest, table_accepted}
use Rattle.message_order.specs.declared.Slot.{Slot as LentSlot}
use Rattle.message_order.specs.declared.Slot.TheVariants.{Pair as LentPair, Operator as LentOperator, Ride as LentRide}
use Rattle.message_order.specs.Slot.{slot_is}
use Rattle.refusal_message.specs.Ready.{Ready}
use Rattle.refusal_message.specs.Room.{Room}

-- the number behind those of a pair table
abbrev six : Board → List (ℕ × Bool)
six b = (6, refused_6 b) ∷ []

-- 1 to 6, as the code goes through them
module _ (b : Board) (short : Bool) (k : ℕ) (e : k ≡ first_number (table_cases b.head short (b.part Operators) (b.part Rides))) where
  pub stamped_table : k ≢ 0 → k ≡ first_number (table_cases b.head short (b.part Operators) (b.part Rides) ++ six b)
  stamped_table n = table_first b.head short (b.part Operators) (b.part Rides) (six b) k e n

  pub stamped_6 : k ≡ 0 → refused_6 b ≡ true → 6 ≡ first_number (table_cases b.head short (b.part Operators) (b.part Rides) ++ six b)
  stamped_6 z t = last_here 6 (refused_6 b) t ∙ table_rest b.head short (b.part Operators) (b.part Rides) (six b) k e z

  pub stamped_0 : k ≡ 0 → refused_6 b ≡ false → 0 ≡ first_number (table_cases b.head short (b.part Operators) (b.part Rides) ++ six b)
  stamped_0 z t = last_skip 6 (refused_6 b) t ∙ table_rest b.head short (b.part Operators) (b.part Rides) (six b) k e z

-- where neither a part of a board nor anything else is too short, each part is long enough
pub either_long : (b : Board) (other : Bool) → (board_short b || other) ≡ false → (p : Part) → places b.head p ≤ length (b.part p)
either_long b other e = board_long b (λ t. subst T e (or_left (board_short b) other t))

-- where none of 1 to 6 applies to a board that is long enough unless a part is said to be too short, a message can be looked at
pub board_room : (b : Board) (short : Bool) → (short ≡ false → (p : Part) → places b.head p ≤ length (b.part p)) → first_number (board_cases b short) ≡ 0 → Room b
board_room b short long e =
    let u = (table_unrefused b.head short (b.part Operators) (b.part Rides) (six b) e).0 in
    let l = long (test_false short u.long) in
    record { pairs = table_accepted b.head short (b.part Operators) (b.part Rides) u (l Operators) (l Rides); long = λ p t. l p }

-- ---- the kinds of a slot

-- only the kinds 1 and 2 speak of a pair
pub pair_kind : (m : Message) (u v : ℕ) → Pair u v ≡ slot m → m.kind ≤ 2
pair_kind m u v e =
    elim (dec_le m.kind 2) [
      | yes k ↦ k
      | no k ↦
          elim (dec_le m.kind 4) [
            | yes l ↦ absurd (let z : Pair u v ≡ Operator m.operator = e ∙ slot_operator m (omega arith) l in let y : ⊥ = cc in y)
            | no l ↦ absurd (let z : Pair u v ≡ Ride m.ride = e ∙ slot_ride m (omega arith) in let y : ⊥ = cc in y)
          ]
    ]

-- and they speak of nothing else
pub other_kind : (m : Message) (s : LentSlot) → slot_is s ≡ slot m → ((u v : ℕ) → s ≡ LentPair u v → ⊥) → 3 ≤ m.kind
other_kind m (LentPair u v) e n = absurd (n u v refl)
other_kind m (LentOperator u) e n =
    elim (dec_le m.kind 2) [ yes k ↦ absurd (let z : Operator u ≡ Pair m.operator m.ride = e ∙ slot_pair m k in let y : ⊥ = cc in y) | no k ↦ omega arith ]
other_kind m (LentRide v) e n =
    elim (dec_le m.kind 2) [ yes k ↦ absurd (let z : Ride v ≡ Pair m.operator m.ride = e ∙ slot_pair m k in let y : ⊥ = cc in y) | no k ↦ omega arith ]

-- ---- all of a message's numbers

module _ (b : Board) (m : Message) where
  module _ (j : ℕ) (f : j ≡ first_number (valid_cases b.head m)) where
    pub entry_invalid : j ≢ 0 → j ≡ first_number (message_cases b m)
    entry_invalid = front_is ((10, refused_10 b m) ∷ []) (valid_cases b.head m) (positive_valid b.head m) j f

    module _ (y : j ≡ 0) where
      last_test : first_number ((10, refused_10 b m) ∷ []) ≡ first_number (message_cases b m)
      last_test = behind_is ((10, refused_10 b m) ∷ []) (valid_cases b.head m) (positive_valid b.head m) j f y

      pub entry_10 : refused_10 b m ≡ true → 10 ≡ first_number (message_cases b m)
      entry_10 t = last_here 10 (refused_10 b m) t ∙ last_test

      pub entry_0 : refused_10 b m ≡ false → 0 ≡ first_number (message_cases b m)
      entry_0 t = last_skip 10 (refused_10 b m) t ∙ last_test

  module _ (short : Bool) where
    positive_6 : Positive (board_cases b short)
    positive_6 = (omega arith, (omega arith, (omega arith, (omega arith, (omega arith, (omega arith, tt))))))

    pub on_board : (k : ℕ) → k ≡ first_number (board_cases b short) → k ≢ 0 → k ≡ first_number (board_cases b short ++ message_cases b m)
    on_board = front_is (message_cases b m) (board_cases b short) positive_6

    pub on_entry : (k : ℕ) → k ≡ first_number (board_cases b short) → k ≡ 0 → first_number (message_cases b m) ≡ first_number (board_cases b short ++ message_cases b m)
    on_entry = behind_is (message_cases b m) (board_cases b short) positive_6

-- ---- the numbers of a call, with its own 3

module _ (b : Board) (short : Bool) where
  pub message_of : (m : Message) → short ≡ board_short b → first_number (board_cases b short ++ message_cases b m) ≡ message_refusal b m
  unfolding message_refusal
  message_of m e = ap (λ (t : Bool). first_number (board_cases b t ++ message_cases b m)) e

  pub preview_of : (m : Message) (spare : Parts) → short ≡ (board_short b || board_short (of_parts b.head spare)) → first_number (board_cases b short ++ message_cases b m) ≡ preview_refusal b m spare
  unfolding preview_refusal
  preview_of m spare e = ap (λ (t : Bool). first_number (board_cases b t ++ message_cases b m)) e

  pub list_of : (messages : ℕ) (answers : List ℕ) → short ≡ (board_short b || refused_3 messages answers) → first_number (board_cases b short) ≡ list_refusal b messages answers
  unfolding list_refusal
  list_of messages answers e = ap (λ (t : Bool). first_number (board_cases b t)) e

-- a board with such room is ready
pub room_ready : {b : Board} → Room b → Ready b
room_ready r = record {
  pairs = r.pairs;
  stamps_long = r.long Stamps tt;
  revisions_long = r.long Revisions tt;
  presence_stamps_long = r.long PresenceStamps tt;
  presence_revisions_long = r.long PresenceRevisions tt;
  presence_long = r.long Presence tt;
}
