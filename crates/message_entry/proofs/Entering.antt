-- A message entered: what is stored for its pair, operator or ride is what the board then says, and all else stays.
use mathlib.Core.Path.{◌≡◌, refl, sym, ap, ap₂, ◌∙◌, subst}
use mathlib.Core.Logic.{◌≢◌}
use mathlib.Core.Bool.{Bool, true, false, ◌&&◌}
use mathlib.Core.List.{List, map}
use Prim.Native.Nat.{ℕ, zero, suc, ◌-◌, ◌/◌, ◌%◌, ◌≤◌, ◌<◌}
use native.Mathlib.Omega.{arith}
use native.Mathlib.Decide.{dec_lt, ℕ_discrete}
use lib.Dec.{T, ltb, eqb}
use lib.Arith.{digits_lt}
use lib.ListN.{length, get_or, set, length-set}
use lib.Seq.{get_or-set_same, get_or-set_other, drop-set-lt}
use Rattle.model.specs.declared.Head.{Head}
use Rattle.model.specs.declared.Message.{Message}
use Rattle.model.specs.Count.{bit, values, rows}
use Rattle.model.specs.Graph.{Graph}
use Rattle.model.specs.Layout.{Part, Operators, Rides, Stamps, Revisions, Index, PresenceStamps, PresenceRevisions, Presence, Board, lent, pair_places, mark_places, places, over, onto, sized, listed, listed_graph}
use Rattle.model.specs.Contents.{Slot, Pair, Operator, Ride, Entry, gives, giving, Contents, slot, entry, put, given, contents, pair_place, ride_place, entry_at, node_slot, pair_numbers, padded, words, board_of}
use Rattle.model.specs.Message.{board_after}
use Rattle.model.proofs.Count.{bit_test}
use Rattle.model.proofs.Pairs.{number_same, rows_over, values_over}
use Rattle.model.proofs.Refusal.{slot_pair, by_kind, Within, Valid, none_valid, valid_none, cases_none}
use Rattle.model.proofs.Contents.{by_slot, put_same, put_other, pair_or_operator, pair_or_ride, slot_of_operator, slot_of_ride}
use Rattle.part_presence.specs.Presence.{node_place}
use Rattle.part_presence.proofs.Presence.{place_within}
use Rattle.pairs_change.specs.Change.{graph_with, Arrays}
use Rattle.refusal_message.specs.Room.{in_use, Room}
use Rattle.message_entry.specs.Enter.{Enters, with_pairs, with_index, entered, number_of, entered_valid}

-- ---- a place and its slot

module _ (h : Head) where
  -- the place of a place's slot is that place
  place_of_slot : (y : ℕ) → node_place h (node_slot h y) ≡ y
  place_of_slot y =
      elim (dec_lt y h.operators) [
        | yes l ↦ ap (node_place h) (slot_of_operator h y l)
        | no l ↦
            (let q : ride_place h (y - h.operators) ≡ y = omega arith in
            ap (λ (z : ℕ). node_place h (node_slot h z)) (sym q) ∙ ap (node_place h) (slot_of_ride h (y - h.operators)) ∙ q)
      ]

  -- the slot of a message for an operator or ride is that of its place
  slot_of_place : (m : Message) → 3 ≤ m.kind → Within h (slot m) → node_slot h (node_place h (slot m)) ≡ slot m
  slot_of_place m l =
      by_kind m (λ t. Within h t → node_slot h (node_place h t) ≡ t)
      (λ k. absurd (let z : ⊥ = omega arith in z))
      (λ k k' w. slot_of_operator h m.operator w)
      (λ k w. slot_of_ride h m.ride)

  pair_no_node : (u v y : ℕ) → Pair u v ≡ node_slot h y → ⊥
  pair_no_node u v y = go (ltb y h.operators)
    where
      go : (t : Bool) → Pair u v ≡ elim t [ true ↦ Operator y | false ↦ Ride (y - h.operators) ] → ⊥
      go true = pair_or_operator u v y
      go false = pair_or_ride u v (y - h.operators)

-- what a board says of the slot of a place
contents_node : (b : Board) (y : ℕ) → contents b (node_slot b.head y) ≡ entry_at b y
contents_node b y =
    let h : Head = b.head in
    elim (dec_lt y h.operators) [
      | yes l ↦ ap (contents b) (slot_of_operator h y l)
      | no l ↦
          (let q : ride_place h (y - h.operators) ≡ y = omega arith in
          ap (λ (z : ℕ). contents b (node_slot h z)) (sym q) ∙ ap (contents b) (slot_of_ride h (y - h.operators)) ∙ ap (entry_at b) q)
    ]

-- ---- an entry put at a slot

module _ (b : Board) (t : Slot) (e : Entry) where
  abbrev h : Head
  h = b.head

  abbrev before : Contents
  before = contents b

  abbrev after : Contents
  after = put before t e

  -- the board that says it, its index as it was
  abbrev said : Board
  said = with_index (onto (board_of h after) b.part) (b.part Index)

  -- words of pairs, and of operators and rides
  abbrev pair_words : (Entry → ℕ) → List ℕ
  pair_words f = rows h.operators h.rides (λ u v. f (after (Pair u v)))

  abbrev node_words : (Entry → ℕ) → List ℕ
  node_words f = values (mark_places h) (λ y. f (after (node_slot h y)))

  -- the pair arrays list the clearances of g, and all other words are those that say it
  pub said_is : (g : Graph) (count : ℕ) (operators rides stamps revisions stamps' revisions' presence : List ℕ) → g ≡ sized h (given after) → Arrays h g (b.part Operators) (b.part Rides) count operators rides → stamps ≡ over (pair_words (λ x. x.stamp)) (b.part Stamps) → revisions ≡ over (pair_words (λ x. x.revision)) (b.part Revisions) → stamps' ≡ over (node_words (λ x. x.stamp)) (b.part PresenceStamps) → revisions' ≡ over (node_words (λ x. x.revision)) (b.part PresenceRevisions) → presence ≡ over (node_words (λ x. x.word)) (b.part Presence) → lent (with_pairs h count) operators rides stamps revisions (b.part Index) stamps' revisions' presence ≡ said
  unfolding words
  said_is g count operators rides stamps revisions stamps' revisions' presence q a s r s' r' w =
      let n = a.pairs ∙ ap (λ (x : Graph). length (pair_numbers x)) q in
      let o = a.operator_words ∙ ap (λ (x : Graph). over (padded (pair_places h) (map (λ k. k / h.rides) (pair_numbers x))) (b.part Operators)) q in
      let d = a.ride_words ∙ ap (λ (x : Graph). over (padded (pair_places h) (map (λ k. k % h.rides) (pair_numbers x))) (b.part Rides)) q in
      λ j. lent (with_pairs h (n j)) (o j) (d j) (s j) (r j) (b.part Index) (s' j) (r' j) (w j)

  -- words of pairs where none of them is the slot, and of operators and rides
  pub pairs_kept : ((u v : ℕ) → Pair u v ≡ t → ⊥) → (f : Entry → ℕ) (old : List ℕ) → pair_places h ≤ length old → ((u v : ℕ) → get_or old (pair_place h u v) 0 ≡ f (before (Pair u v))) → old ≡ over (pair_words f) old
  pairs_kept n f old long holds =
      rows_over h.operators h.rides (λ u v. f (after (Pair u v))) old old long
      (λ u v p q. holds u v ∙ sym (ap f (put_other before t e (Pair u v) (n u v)))) refl

  pub nodes_kept : ((y : ℕ) → node_slot h y ≡ t → ⊥) → (f : Entry → ℕ) (old : List ℕ) → mark_places h ≤ length old → ((y : ℕ) → get_or old y 0 ≡ f (entry_at b y)) → old ≡ over (node_words f) old
  nodes_kept n f old long holds =
      values_over (mark_places h) (λ y. f (after (node_slot h y))) old old long
      (λ y l. holds y ∙ sym (ap f (put_other before t e (node_slot h y) (n y) ∙ contents_node b y))) refl

-- ---- at a pair

module _ (b : Board) (u v : ℕ) (e : Entry) (in_operators : u < b.head.operators) (in_rides : v < b.head.rides) where
  abbrev place : ℕ
  place = pair_place b.head u v

  pub place_inside : place < pair_places b.head
  place_inside = digits_lt in_operators in_rides

  pub pair_set : (f : Entry → ℕ) (old : List ℕ) → pair_places b.head ≤ length old → ((x y : ℕ) → get_or old (pair_place b.head x y) 0 ≡ f (contents b (Pair x y))) → set old place (f e) ≡ over (pair_words b (Pair u v) e f) old
  pair_set f old long holds =
      let h : Head = b.head in
      rows_over h.operators h.rides (λ x y. f (put (contents b) (Pair u v) e (Pair x y))) (set old place (f e)) old (omega (arith, length-set old place (f e))) word_at
      (drop-set-lt (pair_places h) old place (f e) place_inside)
    where
      at : Slot → ℕ
      at (Pair x y) = get_or (set old place (f e)) (pair_place b.head x y) 0
      at (Operator x) = 0
      at (Ride y) = 0

      word_at : (x y : ℕ) → x < b.head.operators → y < b.head.rides → get_or (set old place (f e)) (pair_place b.head x y) 0 ≡ f (put (contents b) (Pair u v) e (Pair x y))
      word_at x y p q =
          by_slot (Pair x y) (Pair u v)
          (λ k. subst (λ (t : Slot). at t ≡ f (put (contents b) (Pair u v) e t)) (sym k) (get_or-set_same old place (f e) 0 (omega (arith, place_inside)) ∙ sym (ap f (put_same (contents b) (Pair u v) e))))
          (λ n. get_or-set_other old place (pair_place b.head x y) (f e) 0 (λ k. let s = number_same b.head.rides x y u v q in_rides k in n (ap₂ Pair s.0 s.1)) ∙ holds x y ∙ sym (ap f (put_other (contents b) (Pair u v) e (Pair x y) n)))

  -- the clearances with the pair added or removed are those that the board then says
  pub pair_cleared : (to : Bool) → gives e ≡ to → graph_with b.head (b.part Operators) (b.part Rides) u v to ≡ sized b.head (given (after b (Pair u v) e))
  pair_cleared to g = λ j. sized b.head (λ x y. go (eqb x u && eqb y v) (contents b (Pair x y)) (listed b.head.pairs (b.part Operators) (b.part Rides) x y) (sym (bit_test (listed b.head.pairs (b.part Operators) (b.part Rides) x y))) j)
    where
      go : (t : Bool) (d : Entry) (l : Bool) → l ≡ gives d → elim t [ true ↦ to | false ↦ l ] ≡ gives (elim t [ true ↦ e | false ↦ d ])
      go true d l q = sym g
      go false d l q = q

-- ---- at an operator or ride

module _ (b : Board) (x : ℕ) (e : Entry) (inside : x < mark_places b.head) where
  pub node_set : (f : Entry → ℕ) (old : List ℕ) → mark_places b.head ≤ length old → ((y : ℕ) → get_or old y 0 ≡ f (entry_at b y)) → set old x (f e) ≡ over (node_words b (node_slot b.head x) e f) old
  node_set f old long holds =
      let h : Head = b.head in
      let t : Slot = node_slot h x in
      values_over (mark_places h) (λ y. f (put (contents b) t e (node_slot h y))) (set old x (f e)) old (omega (arith, length-set old x (f e)))
      (λ y l. elim (ℕ_discrete y x) [
        | yes q ↦ subst (λ (z : ℕ). get_or (set old x (f e)) z 0 ≡ f (put (contents b) t e (node_slot h z))) (sym q) (get_or-set_same old x (f e) 0 (omega arith) ∙ sym (ap f (put_same (contents b) t e)))
        | no n ↦ get_or-set_other old x y (f e) 0 n ∙ holds y ∙ sym (ap f (put_other (contents b) t e (node_slot h y) (λ q. n (sym (place_of_slot h y) ∙ ap (node_place h) q ∙ place_of_slot h x)) ∙ contents_node b y))
      ])
      (drop-set-lt (mark_places h) old x (f e) inside)

  -- the clearances stay
  pub node_cleared : listed_graph b ≡ sized b.head (given (after b (node_slot b.head x) e))
  node_cleared = λ j. sized b.head (λ u v. go u v j)
    where
      go : (u v : ℕ) → (listed_graph b).cleared u v ≡ given (after b (node_slot b.head x) e) u v
      go u v = sym (ap gives (put_other (contents b) (node_slot b.head x) e (Pair u v) (pair_no_node b.head u v x)) ∙ bit_test ((listed_graph b).cleared u v))

-- ---- a message

pub entered_slot : (b : Board) (m : Message) (t : Slot) → t ≡ slot m → said b t (entry m) ≡ entered b m
unfolding entered board_after
entered_slot b m t q = ap (λ (x : Slot). said b x (entry m)) q

module _ (b : Board) (m : Message) (ready : Enters b m) where
  valid : Valid b.head m
  valid = valid_none b.head m ready.valid

  abbrev long : (p : Part) → T (in_use p) → places b.head p ≤ length (b.part p)
  long = ready.room.long

  -- for a pair: the pair is in range, and its stamp, its revision and the pair arrays are what the board then says
  module _ (k : m.kind ≤ 2) where
    pub pair_within : (m.operator < b.head.operators) × (m.ride < b.head.rides)
    pair_within = subst (Within b.head) (slot_pair m k) valid.within

    pub pair_entered : (to : Bool) → to ≡ giving m.kind → (count : ℕ) (operators rides stamps revisions : List ℕ) → (stamps ≡ set (b.part Stamps) (pair_place b.head m.operator m.ride) m.stamp) × (revisions ≡ set (b.part Revisions) (pair_place b.head m.operator m.ride) m.revision) → Arrays b.head (graph_with b.head (b.part Operators) (b.part Rides) m.operator m.ride to) (b.part Operators) (b.part Rides) count operators rides → lent (with_pairs b.head count) operators rides stamps revisions (b.part Index) (b.part PresenceStamps) (b.part PresenceRevisions) (b.part Presence) ≡ entered b m
    pair_entered to given count operators rides stamps revisions s a =
        let u : ℕ = m.operator in
        let v : ℕ = m.ride in
        let e : Entry = entry m in
        let w = pair_within in
        let other : (y : ℕ) → node_slot b.head y ≡ Pair u v → ⊥ = λ y q. pair_no_node b.head u v y (sym q) in
        said_is b (Pair u v) e _ count operators rides stamps revisions _ _ _
        (pair_cleared b u v e w.0 w.1 to (bit_test (giving m.kind) ∙ sym given)) a
        (s.0 ∙ pair_set b u v e w.0 w.1 (λ x. x.stamp) (b.part Stamps) (long Stamps tt) (λ x y. refl))
        (s.1 ∙ pair_set b u v e w.0 w.1 (λ x. x.revision) (b.part Revisions) (long Revisions tt) (λ x y. refl))
        (nodes_kept b (Pair u v) e other (λ x. x.stamp) (b.part PresenceStamps) (long PresenceStamps tt) (λ y. refl))
        (nodes_kept b (Pair u v) e other (λ x. x.revision) (b.part PresenceRevisions) (long PresenceRevisions tt) (λ y. refl))
        (nodes_kept b (Pair u v) e other (λ x. x.word) (b.part Presence) (long Presence tt) (λ y. refl)) ∙
        entered_slot b m (Pair u v) (sym (slot_pair m k))

  -- for an operator or ride: the same of its place
  module _ (k : 3 ≤ m.kind) where
    abbrev at : ℕ
    at = node_place b.head (slot m)

    pub node_within : at < mark_places b.head
    node_within = place_within b.head m k valid.within

    pub node_entered : (operators rides stamps revisions presence : List ℕ) → (stamps ≡ set (b.part PresenceStamps) at m.stamp) × (revisions ≡ set (b.part PresenceRevisions) at m.revision) × (presence ≡ set (b.part Presence) at (bit (giving m.kind))) → Arrays b.head (listed_graph b) (b.part Operators) (b.part Rides) b.head.pairs operators rides → lent b.head operators rides (b.part Stamps) (b.part Revisions) (b.part Index) stamps revisions presence ≡ entered b m
    node_entered operators rides stamps revisions presence s a =
        let t : Slot = node_slot b.head at in
        let e : Entry = entry m in
        let other : (u v : ℕ) → Pair u v ≡ t → ⊥ = λ u v. pair_no_node b.head u v at in
        said_is b t e _ b.head.pairs operators rides _ _ stamps revisions presence
        (node_cleared b at e node_within) a
        (pairs_kept b t e other (λ x. x.stamp) (b.part Stamps) (long Stamps tt) (λ x y. refl))
        (pairs_kept b t e other (λ x. x.revision) (b.part Revisions) (long Revisions tt) (λ x y. refl))
        (s.0 ∙ node_set b at e node_within (λ x. x.stamp) (b.part PresenceStamps) (long PresenceStamps tt) (λ y. refl))
        (s.1 ∙ node_set b at e node_within (λ x. x.revision) (b.part PresenceRevisions) (long PresenceRevisions tt) (λ y. refl))
        (s.2 ∙ node_set b at e node_within (λ x. x.word) (b.part Presence) (long Presence tt) (λ y. refl)) ∙
        entered_slot b m t (slot_of_place b.head m k valid.within)

-- ---- entered, or refused

module _ (b : Board) (m : Message) where
  -- a board with room is ready for a message that is not refused
  pub enters_none : Room b → number_of b m ≡ 0 → Enters b m
  enters_none room e = record { room = room; valid = none_valid b.head m (cases_none b m e).0 }

  pub entered_none : number_of b m ≡ 0 → entered b m ≡ entered_valid b m
  entered_none e = rw (e, entered_valid)

  pub entered_refused : (n : ℕ) → n ≡ number_of b m → n ≢ 0 → b ≡ entered_valid b m
  entered_refused zero e n = absurd (n refl)
  entered_refused (suc n) e k = rw (sym e, entered_valid)
