-- How levels move where a message is taken, on any board.
use mathlib.Core.Path.{◌≡◌, refl, sym, ap, ◌∙◌, subst}
use mathlib.Core.Logic.{◌≢◌}
use mathlib.Core.Bool.{Bool, ◌&&◌}
use mathlib.Core.List.{[], ◌∷◌}
use Prim.Native.Nat.{ℕ, ◌≤◌, ◌<◌}
use native.Mathlib.Omega.{arith}
use lib.Dec.{T}
use Rattle.model.specs.declared.Message.{Message}
use Rattle.model.specs.Count
use Rattle.model.specs.Graph
use Rattle.model.specs.Layout
use Rattle.model.specs.Contents
use Rattle.model.specs.Refusal
use Rattle.model.specs.Calls
use Rattle.model.specs.Message
use Rattle.model.specs.Graph.{Graph, row}
use Rattle.model.specs.Layout.{Board, listed_graph, board_graph}
use Rattle.model.specs.Contents.{Slot, Pair, Operator, Ride, Entry, gives, Contents, slot, giving, entry, put, given, counted, contents}
use Rattle.model.specs.Refusal.{message_refusal}
use Rattle.model.specs.Message.{MessageOutcome, board_after, board_message}
use Rattle.model.specs.OneOperator.{Gained, OneMove}
use Rattle.model.proofs.Count.{bit_test, and_left, and_right, and_both}
use Rattle.model.proofs.Change.{one_operator}
use Rattle.model.proofs.Refusal.{slot_pair, slot_operator, Within, Valid, taken_none}
use Rattle.model.proofs.Contents.{by_slot, put_same, put_other}
use Rattle.model.proofs.Taken.{message_taken, says_after}
use Rattle.model_delivery.specs.Demand3.{two_on_one, ride_gone, OneMessage}

-- the slot is the operator's own, or one of its pairs
abbrev Of : ℕ → Slot → Type 0
Of u (Pair a d) = a ≡ u
Of u (Operator a) = a ≡ u
Of u (Ride d) = ⊥

-- another operator's slots, and the rides', are others
other_pair : (u a d : ℕ) (t : Slot) → Of u t → a ≢ u → Pair a d ≡ t → ⊥
other_pair u a d t o n q = n (subst (Of u) (sym q) o)

other_operator : (u a : ℕ) (t : Slot) → Of u t → a ≢ u → Operator a ≡ t → ⊥
other_operator u a t o n q = n (subst (Of u) (sym q) o)

other_ride : (u d : ℕ) (t : Slot) → Of u t → Ride d ≡ t → ⊥
other_ride u d t o q = subst (Of u) (sym q) o

-- ---- contents with an entry put at a slot

module _ (s : Contents) (t : Slot) (e : Entry) where
  -- an entry that gives takes nothing away, and one that takes away gives nothing
  put_gives : T (gives e) → (x : Slot) → T (gives (s x)) → T (gives (put s t e x))
  put_gives g x h =
      by_slot x t
      (λ q. subst (λ (y : Entry). T (gives y)) (sym (ap (put s t e) q ∙ put_same s t e)) g)
      (λ n. subst (λ (y : Entry). T (gives y)) (sym (put_other s t e x n)) h)

  put_takes : (T (gives e) → ⊥) → (x : Slot) → T (gives (put s t e x)) → T (gives (s x))
  put_takes g x h =
      by_slot x t
      (λ q. absurd (g (subst (λ (y : Entry). T (gives y)) (ap (put s t e) q ∙ put_same s t e) h)))
      (λ n. subst (λ (y : Entry). T (gives y)) (put_other s t e x n) h)

  -- no pair of another operator comes to count or no longer does
  put_alone : (u a d : ℕ) → Of u t → a ≢ u → counted (put s t e) a d ≡ counted s a d
  put_alone u a d o n =
      let pair = ap gives (put_other s t e (Pair a d) (other_pair u a d t o n)) in
      let operator = ap gives (put_other s t e (Operator a) (other_operator u a t o n)) in
      let ride = ap gives (put_other s t e (Ride d) (other_ride u d t o)) in
      λ j. pair j && (operator j && ride j)

-- what counts by some contents counts by others that give as much
counted_more : (s s' : Contents) (a d : ℕ) → ((x : Slot) → T (gives (s x)) → T (gives (s' x))) → T (counted s a d) → T (counted s' a d)
counted_more s s' a d more t =
    let here : Bool = gives (s (Operator a)) && gives (s (Ride d)) in
    let k = and_right (given s a d) here t in
    and_both (given s' a d) (gives (s' (Operator a)) && gives (s' (Ride d)))
    (more (Pair a d) (and_left (given s a d) here t))
    (and_both (gives (s' (Operator a))) (gives (s' (Ride d))) (more (Operator a) (and_left (gives (s (Operator a))) (gives (s (Ride d))) k)) (more (Ride d) (and_right (gives (s (Operator a))) (gives (s (Ride d))) k)))

-- the pairs of a board that count are those that its contents count
counted_graph : (b : Board) (a d : ℕ) → (board_graph b).cleared a d ≡ counted (contents b) a d
counted_graph b a d =
    ap (λ (z : Bool). z && (gives (contents b (Operator a)) && gives (contents b (Ride d)))) (sym (bit_test ((listed_graph b).cleared a d)))

-- ---- a taken message

module _ (b : Board) (m : Message) (taken : message_refusal b m ≡ 0) where
  abbrev next : Board
  next = board_after b m

  abbrev said : Contents
  said = put (contents b) (slot m) (entry m)

  valid : Valid b.head m
  valid = (taken_none b m taken).1

  -- the pairs that count afterwards
  counted_after : (a d : ℕ) → a < b.head.operators → d < b.head.rides → (board_graph next).cleared a d ≡ counted said a d
  counted_after a d p q =
      let pair = ap gives (says_after b m (Pair a d) (p, q)) in
      let operator = ap gives (says_after b m (Operator a) p) in
      let ride = ap gives (says_after b m (Ride d) q) in
      counted_graph next a d ∙ (λ j. pair j && (operator j && ride j))

  after_taken : (board_message b m).board ≡ next
  after_taken = ap (λ (x : MessageOutcome). x.board) (message_taken b m taken)

  module _ (u : ℕ) (of : Of u (slot m)) (operator : u < b.head.operators) where
    alone : (a d : ℕ) → a < b.head.operators → d < b.head.rides → a ≢ u → (board_graph next).cleared a d ≡ (board_graph b).cleared a d
    alone a d p q n = counted_after a d p q ∙ put_alone (contents b) (slot m) (entry m) u a d of n ∙ sym (counted_graph b a d)

    -- pairs of the operator come to count, if any
    gained : T (gives (entry m)) → Gained (board_graph b) (board_graph next).cleared u
    gained g =
        record {
          operator = operator;
          kept = λ a d p q t. subst T (sym (counted_after a d p q)) (counted_more (contents b) said a d (put_gives (contents b) (slot m) (entry m) g) (subst T (counted_graph b a d) t));
          alone = λ a d p q n. subst T (alone a d p q n);
        }

    -- or no longer count
    lost : (T (gives (entry m)) → ⊥) → Gained (board_graph next) (board_graph b).cleared u
    unfolding board_after
    lost g =
        record {
          operator = operator;
          kept = λ a d p q t. subst T (sym (counted_graph b a d)) (counted_more said (contents b) a d (put_takes (contents b) (slot m) (entry m) g) (subst T (counted_after a d p q) t));
          alone = λ a d p q n. subst T (sym (alone a d p q n));
        }

    moves_up : T (gives (entry m)) → OneMove (board_graph b) (board_graph (board_message b m).board) u
    unfolding board_after
    moves_up g =
        subst (λ (x : Board). OneMove (board_graph b) (board_graph x) u) (sym after_taken) (one_operator (board_graph b) (board_graph next).cleared u (gained g))

    moves_down : (T (gives (entry m)) → ⊥) → OneMove (board_graph (board_message b m).board) (board_graph b) u
    unfolding board_after
    moves_down g =
        subst (λ (x : Board). OneMove (board_graph x) (board_graph b) u) (sym after_taken) (one_operator (board_graph next) (board_graph b).cleared u (lost g))

  -- a message for a pair, and one for an operator
  of_pair : m.kind ≤ 2 → Of m.operator (slot m) × (m.operator < b.head.operators)
  of_pair k = let e = slot_pair m k in (subst (Of m.operator) (sym e) refl, (subst (Within b.head) e valid.within).0)

  of_operator : 3 ≤ m.kind → m.kind ≤ 4 → Of m.operator (slot m) × (m.operator < b.head.operators)
  of_operator l k = let e = slot_operator m l k in (subst (Of m.operator) (sym e) refl, subst (Within b.head) e valid.within)

-- whether a message gives, by its kind
kind_gives : (m : Message) (k : ℕ) → m.kind ≡ k → T (giving k) → T (gives (entry m))
kind_gives m k e t = subst T (sym (bit_test (giving m.kind) ∙ ap giving e)) t

kind_takes : (m : Message) (k : ℕ) → m.kind ≡ k → (T (giving k) → ⊥) → T (gives (entry m)) → ⊥
kind_takes m k e n t = n (subst T (bit_test (giving m.kind) ∙ ap giving e) t)

-- ---- a ride: the example

ride_moves : (message_refusal two_on_one ride_gone ≡ 0) × (row (board_graph two_on_one) 1 ≡ 2 ∷ 2 ∷ 2 ∷ []) × (row (board_graph (board_message two_on_one ride_gone).board) 1 ≡ 0 ∷ 0 ∷ 0 ∷ [])
unfolding Contents.slot Count.count Count.some Count.lowest Count.values Count.rows Count.passing Graph.degree Graph.limits Graph.short Graph.settled Graph.removals Graph.without Graph.peel Graph.cover_under Graph.cover Graph.level_to Graph.level Graph.row Graph.index_of Layout.listed Refusal.misplaced Refusal.refused_5 Refusal.refused_6 Refusal.refused_10 Refusal.first_number Refusal.board_short Refusal.build_refusal Refusal.message_refusal Calls.built Calls.board_build Contents.pair_numbers Contents.words Message.board_after Message.board_message
ride_moves = (refl, refl, refl)

pub one_message : OneMessage
one_message =
    record {
      grant = λ b m taken k. let o = of_pair b m taken (omega arith) in moves_up b m taken m.operator o.0 o.1 (kind_gives m 1 k tt);
      operator_on = λ b m taken k. let o = of_operator b m taken (omega arith) (omega arith) in moves_up b m taken m.operator o.0 o.1 (kind_gives m 3 k tt);
      withdrawal = λ b m taken k. let o = of_pair b m taken (omega arith) in moves_down b m taken m.operator o.0 o.1 (kind_takes m 2 k (λ t. t));
      operator_off = λ b m taken k. let o = of_operator b m taken (omega arith) (omega arith) in moves_down b m taken m.operator o.0 o.1 (kind_takes m 4 k (λ t. t));
      ride_out = ride_moves.0;
      ride_before = ride_moves.1;
      ride_after = ride_moves.2;
    }
