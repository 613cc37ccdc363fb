-- Boards that say given contents, lent with further words: what they say is read off them again, 1 to 6 do not apply, and they depend on
-- what is said of the slots in range alone.
use mathlib.Core.Path.{◌≡◌, refl, sym, ap, ap₂, ◌∙◌, subst}
use mathlib.Core.Bool.{Bool, ◌&&◌}
use mathlib.Core.List.{List, ◌++◌, map}
use Prim.Native.Nat.{ℕ, suc, ◌+◌, ◌-◌, ◌*◌, ◌/◌, ◌%◌, ◌≤◌, ◌<◌}
use native.Mathlib.Omega.{arith}
use native.Mathlib.Decide.{dec_lt}
use lib.Dec.{T, eqb, eqb→eq, eqb_refl}
use borrow.Author.Tests.{lt-ltb, le-ltb}
use lib.Arith.{digits_lt}
use lib.ListN.{length, get_or, take, length-append, get_or-append}
use lib.Seq.{take_at, drop_at}
use Rattle.model.specs.declared.Head.{Head}
use Rattle.model.specs.declared.Message.{Message}
use Rattle.model.specs.Count.{bit, values, rows}
use Rattle.model.specs.Graph.{Graph, nodes, present, level, index_of}
use Rattle.model.specs.Layout.{Part, Operators, Rides, Stamps, Revisions, Index, PresenceStamps, PresenceRevisions, Presence, Parts, Board, pair_places, mark_places, places, over, onto, exact, sized, listed_graph, board_graph}
use Rattle.model.specs.Contents.{Slot, Pair, Operator, Ride, same_slot, Entry, gives, giving, entry, Contents, put, given, counted, contents, pair_place, ride_place, entry_at, node_slot, padded, words, board_of}
use Rattle.model.proofs.Count.{by_test, test_true, test_false, bit_test, and_left, and_right, and_both, length_values, getD_values, values_ext, length_rows, get_d_rows, rows_ext}
use Rattle.model.proofs.Level.{index_same}
use Rattle.model.proofs.Pairs.{Pairs, pairs_padded, pairs_listed, pairs_in_range, pairs_accepted, table_pairs, length_padded, length_numbers, pair_numbers_same, graph_append}
use Rattle.model.proofs.Parts.{by_part}
use Rattle.model.proofs.Refusal.{Within, Accepted}

-- ---- slots

pub slot_refl : (t : Slot) → T (same_slot t t)
slot_refl (Pair u v) = and_both (eqb u u) (eqb v v) (eqb_refl u) (eqb_refl v)
slot_refl (Operator u) = eqb_refl u
slot_refl (Ride v) = eqb_refl v

pub slot_equal : (x t : Slot) → T (same_slot x t) → x ≡ t
slot_equal (Pair u v) (Pair a d) h =
    ap₂ Pair (eqb→eq u a (and_left (eqb u a) (eqb v d) h)) (eqb→eq v d (and_right (eqb u a) (eqb v d) h))
slot_equal (Pair u v) (Operator a) h = absurd h
slot_equal (Pair u v) (Ride d) h = absurd h
slot_equal (Operator u) (Pair a d) h = absurd h
slot_equal (Operator u) (Operator a) h = ap Operator (eqb→eq u a h)
slot_equal (Operator u) (Ride d) h = absurd h
slot_equal (Ride v) (Pair a d) h = absurd h
slot_equal (Ride v) (Operator a) h = absurd h
slot_equal (Ride v) (Ride d) h = ap Ride (eqb→eq v d h)

pub pair_equal : (u v a d : ℕ) → Pair u v ≡ Pair a d → (u ≡ a) × (v ≡ d)
pair_equal u v a d q = ((cc), (cc))

pub pair_or_operator : (u v a : ℕ) → Pair u v ≡ Operator a → ⊥
pair_or_operator u v a q = subst T (ap (same_slot (Pair u v)) q) (slot_refl (Pair u v))

pub pair_or_ride : (u v d : ℕ) → Pair u v ≡ Ride d → ⊥
pair_or_ride u v d q = subst T (ap (same_slot (Pair u v)) q) (slot_refl (Pair u v))

-- a slot is the given one, or another
pub by_slot {ℓ} : {C : Type ℓ} (x t : Slot) → (x ≡ t → C) → ((x ≡ t → ⊥) → C) → C
by_slot x t f g =
    by_test (same_slot x t)
    (λ h. f (slot_equal x t h))
    (λ n. g (λ e. n (subst (λ (y : Slot). T (same_slot x y)) e (slot_refl x))))

module _ (s : Contents) (t : Slot) (e : Entry) where
  pub put_same : put s t e t ≡ e
  put_same = rw (test_true (same_slot t t) (slot_refl t), put)

  pub put_other : (x : Slot) → (x ≡ t → ⊥) → put s t e x ≡ s x
  put_other x n = rw (test_false (same_slot x t) (λ h. n (slot_equal x t h)), put)

-- the slot of a place
module _ (h : Head) where
  pub slot_of_operator : (u : ℕ) → u < h.operators → node_slot h u ≡ Operator u
  slot_of_operator u l = rw (lt-ltb u h.operators l, node_slot)

  pub slot_of_ride : (v : ℕ) → node_slot h (ride_place h v) ≡ Ride v
  slot_of_ride v = rw (le-ltb (ride_place h v) h.operators (omega arith), node_slot) (ap Ride (let q : ride_place h v - h.operators ≡ v = omega arith in q))

  -- it is in range
  pub node_within : (x : ℕ) → x < mark_places h → Within h (node_slot h x)
  node_within x l =
      elim (dec_lt x h.operators) [
        | yes k ↦ subst (Within h) (sym (slot_of_operator x k)) k
        | no k ↦
            (let q : ride_place h (x - h.operators) ≡ x = omega arith in
            subst (Within h) (sym (slot_of_ride (x - h.operators)) ∙ ap (node_slot h) q) (let z : x - h.operators < h.rides = omega arith in z))
      ]

-- what is said of a pair is said by a word of 1 or 0; of an operator or ride by any word
abbrev pub Plain : Slot → Entry → Type 0
Plain (Pair u v) e = bit (gives e) ≡ e.word
Plain (Operator u) e = Unit
Plain (Ride v) e = Unit

-- a word of 1 or 0 is plain
pub plain_bit : (t : Slot) (e : Entry) (b : Bool) → e.word ≡ bit b → Plain t e
plain_bit (Pair u v) e b q = ap bit (ap (λ (x : ℕ). eqb x 1) q ∙ bit_test b) ∙ sym q
plain_bit (Operator u) e b q = tt
plain_bit (Ride v) e b q = tt

-- so are the entry of a message and what a board says
pub plain_entry : (t : Slot) (m : Message) → Plain t (entry m)
plain_entry t m = plain_bit t (entry m) (giving m.kind) refl

pub plain_contents : (b : Board) (t : Slot) → Plain t (contents b t)
plain_contents b (Pair u v) = plain_bit (Pair u v) (contents b (Pair u v)) ((listed_graph b).cleared u v) refl
plain_contents b (Operator u) = tt
plain_contents b (Ride v) = tt

pub plain_put : (s : Contents) (t : Slot) (e : Entry) (x : Slot) → Plain x e → Plain x (s x) → Plain x (put s t e x)
plain_put s t e x p q =
    by_slot x t
    (λ k. subst (Plain x) (sym (ap (put s t e) k ∙ put_same s t e)) p)
    (λ n. subst (Plain x) (sym (put_other s t e x n)) q)

-- ---- lengths

pub length_words : (h : Head) (s : Contents) (p : Part) → length (words h s p) ≡ places h p
unfolding words index_of
length_words h s =
    by_part (λ p. length (words h s p) ≡ places h p)
    (length_padded (λ k. k / h.rides) (sized h (given s)))
    (length_padded (λ k. k % h.rides) (sized h (given s)))
    (length_rows h.rides (λ u v. (s (Pair u v)).stamp) h.operators)
    (length_rows h.rides (λ u v. (s (Pair u v)).revision) h.operators)
    (length_rows (nodes (sized h (counted s))) (λ a x. level (sized h (counted s)) (suc a) x) h.rides)
    (length_values (λ x. (s (node_slot h x)).stamp) (mark_places h))
    (length_values (λ x. (s (node_slot h x)).revision) (mark_places h))
    (length_values (λ x. (s (node_slot h x)).word) (mark_places h))

-- they are the lengths of the board's own head too
pub places_of : (h : Head) (s : Contents) (p : Part) → places (board_of h s).head p ≡ places h p
places_of h s = by_part (λ p. places (board_of h s).head p ≡ places h p) refl refl refl refl refl refl refl refl

-- ---- as lent

-- a board with further words behind its parts
abbrev pub extend : Board → Parts → Board
extend b more = record { head = b.head; part = λ p. b.part p ++ more p }

module _ (h : Head) (s : Contents) (more : Parts) where
  abbrev board : Board
  board = extend (board_of h s) more

  -- further words change no clearance
  pub listed_extend : listed_graph board ≡ listed_graph (board_of h s)
  listed_extend =
      let b : Board = board_of h s in
      let fits : b.head.pairs ≤ pair_places h = length_numbers (sized h (given s)) in
      graph_append b.head (b.part Operators) (b.part Rides) (more Operators) (more Rides) (omega (arith, length_words h s Operators)) (omega (arith, length_words h s Rides))

  pub pairs_of_words : Pairs (sized h (given s)) board.head.pairs (board.part Operators) (board.part Rides)
  unfolding words
  pairs_of_words = pairs_padded (sized h (given s)) (pair_places h) (more Operators) (more Rides)

  listed_words : (u v : ℕ) → u < h.operators → v < h.rides → (listed_graph board).cleared u v ≡ given s u v
  listed_words = pairs_listed (sized h (given s)) board.head.pairs (board.part Operators) (board.part Rides) pairs_of_words

  -- a word for each pair stands at the pair's place
  pair_words : (f : ℕ → ℕ → ℕ) (behind : List ℕ) (u v : ℕ) → u < h.operators → v < h.rides → get_or (rows h.operators h.rides f ++ behind) (pair_place h u v) 0 ≡ f u v
  pair_words f behind u v a b =
      get_or-append (rows h.operators h.rides f) behind 0 (u * h.rides + v) (omega (arith, digits_lt a b, length_rows h.rides f h.operators)) ∙
      get_d_rows h.rides f h.operators u v 0 a b

  stamp_words : (u v : ℕ) → u < h.operators → v < h.rides → get_or (board.part Stamps) (pair_place h u v) 0 ≡ (s (Pair u v)).stamp
  unfolding words
  stamp_words = pair_words (λ u v. (s (Pair u v)).stamp) (more Stamps)

  revision_words : (u v : ℕ) → u < h.operators → v < h.rides → get_or (board.part Revisions) (pair_place h u v) 0 ≡ (s (Pair u v)).revision
  unfolding words
  revision_words = pair_words (λ u v. (s (Pair u v)).revision) (more Revisions)

  -- a word for each operator and ride stands at its place
  node_words : (f : Entry → ℕ) (behind : List ℕ) (x : ℕ) → x < mark_places h → get_or (values (mark_places h) (λ y. f (s (node_slot h y))) ++ behind) x 0 ≡ f (s (node_slot h x))
  node_words f behind x l =
      get_or-append (values (mark_places h) (λ y. f (s (node_slot h y)))) behind 0 x (omega (arith, length_values (λ y. f (s (node_slot h y))) (mark_places h))) ∙
      getD_values (λ y. f (s (node_slot h y))) (mark_places h) x 0 l

  entry_words : (x : ℕ) → x < mark_places h → entry_at board x ≡ s (node_slot h x)
  unfolding words
  entry_words x l =
      let stamp = node_words (λ e. e.stamp) (more PresenceStamps) x l in
      let revision = node_words (λ e. e.revision) (more PresenceRevisions) x l in
      let word = node_words (λ e. e.word) (more Presence) x l in
      λ j. record { stamp = stamp j; revision = revision j; word = word j }

  operator_words : (u : ℕ) → u < h.operators → entry_at board u ≡ s (Operator u)
  operator_words u l = entry_words u (omega arith) ∙ ap s (slot_of_operator h u l)

  ride_words : (v : ℕ) → v < h.rides → entry_at board (ride_place h v) ≡ s (Ride v)
  ride_words v l = entry_words (ride_place h v) (omega arith) ∙ ap s (slot_of_ride h v)

  -- the contents are read off again
  pub contents_of : (t : Slot) → Within h t → Plain t (s t) → contents board t ≡ s t
  contents_of (Pair u v) w p =
      let stamp = stamp_words u v w.0 w.1 in
      let revision = revision_words u v w.0 w.1 in
      let word = ap bit (listed_words u v w.0 w.1) ∙ p in
      λ j. record { stamp = stamp j; revision = revision j; word = word j }
  contents_of (Operator u) w p = operator_words u w
  contents_of (Ride v) w p = ride_words v w

  -- the pairs that count are those counted
  pub counted_words : (u v : ℕ) → u < h.operators → v < h.rides → (board_graph board).cleared u v ≡ counted s u v
  counted_words u v a b =
      let on = ap gives (operator_words u a) in
      let in_service = ap gives (ride_words v b) in
      let cleared = listed_words u v a b in
      λ j. cleared j && (on j && in_service j)

  -- further words change no presence, and no pair that counts
  pub present_extend : (x : ℕ) → x < mark_places h → present (board.part Presence) x ≡ present (words h s Presence) x
  present_extend x l = ap (λ (k : ℕ). eqb k 1) (get_or-append (words h s Presence) (more Presence) 0 x (omega (arith, length_words h s Presence)))

  -- whether a pair's operator and ride are both present
  abbrev both : List ℕ → ℕ → ℕ → Bool
  both presence u v = present presence u && present presence (ride_place h v)

  pub graph_extend : board_graph board ≡ board_graph (board_of h s)
  graph_extend = λ j. record { operators = h.operators; rides = h.rides; cleared = λ u v. same u v j }
    where
      same : (u v : ℕ) → (board_graph board).cleared u v ≡ (board_graph (board_of h s)).cleared u v
      same u v =
          let listed : Bool = (listed_graph board).cleared u v in
          let e : listed ≡ (listed_graph (board_of h s)).cleared u v = ap (λ (g : Graph). g.cleared u v) listed_extend in
          by_test listed
          (λ t. let w = pairs_in_range (sized h (given s)) board.head.pairs (board.part Operators) (board.part Rides) pairs_of_words u v t in
          let on = present_extend u (omega (arith, w.0)) in
          let in_service = present_extend (ride_place h v) (omega (arith, w.1)) in
          λ j. e j && (on j && in_service j))
          (λ n. ap (λ (z : Bool). z && both (board.part Presence) u v) (test_false listed n) ∙ sym (ap (λ (z : Bool). z && both (words h s Presence) u v) (sym e ∙ test_false listed n)))

  -- the index is that of the pairs listed that count
  pub index_words : words h s Index ≡ index_of (board_graph board)
  unfolding words
  index_words = index_same (board_graph board) (counted s) counted_words

  -- 1 to 6 do not apply, where each pair that is given has a stamp
  pub accepted_of : h.operators ≤ 200 → h.rides ≤ 60 → ((u v : ℕ) → u < h.operators → v < h.rides → T (given s u v) → 1 ≤ (s (Pair u v)).stamp) → Accepted board
  accepted_of few few' stamped =
      record {
        table = record {
          few_operators = few;
          few_rides = few';
          long = λ p. omega (arith, length-append (words h s p) (more p), length_words h s p, places_of h s p);
          pairs = table_pairs board.head (board.part Operators) (board.part Rides) (pairs_accepted board.head (board.part Operators) (board.part Rides) (given s) pairs_of_words);
        };
        stamped = λ u v p.
            let w = pairs_in_range (sized h (given s)) board.head.pairs (board.part Operators) (board.part Rides) pairs_of_words u v p in
            omega (arith, stamp_words u v w.0 w.1, stamped u v w.0 w.1 (subst T (listed_words u v w.0 w.1) p));
      }

-- ---- boards that say the same of the slots in range

pub board_of_same : (h : Head) (s s' : Contents) → ((t : Slot) → Within h t → s t ≡ s' t) → board_of h s ≡ board_of h s'
unfolding words
board_of_same h s s' same =
    let pair : (u v : ℕ) → u < h.operators → v < h.rides → s (Pair u v) ≡ s' (Pair u v) = λ u v a b. same (Pair u v) (a, b) in
    let counts : (u v : ℕ) → u < h.operators → v < h.rides → counted s u v ≡ counted s' u v = λ u v a b. (let p = pair u v a b in let o = same (Operator u) a in let r = same (Ride v) b in λ j. gives (p j) && (gives (o j) && gives (r j))) in
    let n = sym (pair_numbers_same (sized h (given s)) (given s') (λ u v a b. ap gives (pair u v a b))) in
    let x = sym (index_same (sized h (counted s)) (counted s') counts) in
    let w : (f : Entry → ℕ) → rows h.operators h.rides (λ u v. f (s (Pair u v))) ≡ rows h.operators h.rides (λ u v. f (s' (Pair u v))) = λ f. rows_ext h.rides (λ u v. f (s (Pair u v))) (λ u v. f (s' (Pair u v))) h.operators (λ u v a b. ap f (pair u v a b)) in
    let y : (f : Entry → ℕ) → values (mark_places h) (λ x. f (s (node_slot h x))) ≡ values (mark_places h) (λ x. f (s' (node_slot h x))) = λ f. values_ext (λ x. f (s (node_slot h x))) (λ x. f (s' (node_slot h x))) (mark_places h) (λ x l. ap f (same (node_slot h x) (node_within h x l))) in
    let each = by_part (λ p. words h s p ≡ words h s' p) (ap (λ (l : List ℕ). padded (pair_places h) (map (λ k. k / h.rides) l)) n) (ap (λ (l : List ℕ). padded (pair_places h) (map (λ k. k % h.rides) l)) n) (w (λ e. e.stamp)) (w (λ e. e.revision)) x (y (λ e. e.stamp)) (y (λ e. e.revision)) (y (λ e. e.word)) in
    λ j. record { head = record { operators = h.operators; rides = h.rides; pairs = length (n j) }; part = λ p. each p j }

-- of a head the sizes count alone
pub board_of_sizes : (h : Head) (s s' : Contents) → board_of (board_of h s).head s' ≡ board_of h s'
unfolding words
board_of_sizes h s s' =
    let each = by_part (λ p. words (board_of h s).head s' p ≡ words h s' p) refl refl refl refl refl refl refl refl in
    λ j. record { head = (board_of h s').head; part = λ p. each p j }

-- a board laid over one of its sizes that was lent with further words
pub onto_extend : (h : Head) (s s' : Contents) (more : Parts) → onto (board_of h s) (extend (board_of h s') more).part ≡ extend (board_of h s) more
onto_extend h s s' more =
    let each : (p : Part) → over (words h s p) (words h s' p ++ more p) ≡ words h s p ++ more p = λ p. ap (λ (l : List ℕ). words h s p ++ l) (drop_at (words h s' p) (more p) (length (words h s p)) (length_words h s' p ∙ sym (length_words h s p))) in
    λ j. record { head = (board_of h s).head; part = λ p. each p j }

-- a board laid over any words is the board, to the lengths under Layout
pub exact_onto : (h : Head) (s : Contents) (old : Parts) → exact (onto (board_of h s) old) ≡ board_of h s
exact_onto h s old =
    let each : (p : Part) → take (places (board_of h s).head p) (over (words h s p) (old p)) ≡ words h s p = λ p. take_at (words h s p) _ (places (board_of h s).head p) (length_words h s p ∙ sym (places_of h s p)) in
    λ j. record { head = (board_of h s).head; part = λ p. each p j }
