-- A message looks at a board's words to the lengths under Layout alone: two boards of one head that have the same there refuse the same messages,
-- and a taken message leaves them the same there, with the same answer.
use mathlib.Core.Path.{◌≡◌, refl, sym, ap, ap₂, ◌∙◌}
use mathlib.Core.Bool.{true, false, ◌||◌, not}
use mathlib.Core.List.{List, []}
use Prim.Native.Nat.{ℕ, zero, suc, ◌≤◌, ◌<◌}
use native.Mathlib.Omega.{arith}
use lib.Dec.{T, eqb}
use lib.Arith.{digits_lt}
use lib.ListN.{length, get_or, drop, get_or-append}
use Rattle.model.specs.declared.Head.{Head}
use Rattle.model.specs.declared.Message.{Message}
use Rattle.model.specs.Count.{bit}
use Rattle.model.specs.Layout.{Part, Operators, Rides, Stamps, Revisions, Index, PresenceStamps, PresenceRevisions, Presence, Parts, Board, pair_places, mark_places, index_places, places, of_parts, exact, listed_graph, differing}
use Rattle.model.specs.Contents.{Slot, Pair, Operator, Ride, Entry, later, slot, entry, put, same_slot, contents, pair_place, ride_place, entry_at, words, board_of}
use Rattle.model.specs.Refusal.{refused_1, refused_2, refused_4, refused_5, refused_6, refused_10, before, out_of_range, misplaced, board_short, valid_cases, message_refusal}
use Rattle.model.specs.Message.{MessageOutcome, board_after, board_message}
use Rattle.model.proofs.Count.{count_ext, some_ext}
use Rattle.model.proofs.Chain.{first_same, behind_same, enough}
use Rattle.model.proofs.Pairs.{graph_same, table_pairs}
use Rattle.model.proofs.Contents.{length_words, board_of_same, exact_onto}
use Rattle.model.proofs.Refusal.{Within, valid_none}
use Rattle.model.proofs.Taken.{message_taken}

module _ (h : Head) (a a' : Parts) (same : (p : Part) (i : ℕ) → i < places h p → get_or (a p) i 0 ≡ get_or (a' p) i 0) where
  abbrev b : Board
  b = of_parts h a

  abbrev b' : Board
  b' = of_parts h a'

  -- ---- the tests

  module _ (fit : h.pairs ≤ pair_places h) where
    same_graph : listed_graph b ≡ listed_graph b'
    same_graph = graph_same h (a Operators) (a Rides) (a' Operators) (a' Rides) (λ i l. same Operators i (omega arith)) (λ i l. same Rides i (omega arith))

    same_misplaced : (i : ℕ) → i < h.pairs → misplaced h (a Operators) (a Rides) i ≡ misplaced h (a' Operators) (a' Rides) i
    unfolding misplaced
    same_misplaced zero l = ap₂ (λ (x y : ℕ). out_of_range h x y || false) (same Operators 0 (omega arith)) (same Rides 0 (omega arith))
    same_misplaced (suc i) l =
        let o = same Operators i (omega arith) in
        let r = same Rides i (omega arith) in
        let o' = same Operators (suc i) (omega arith) in
        let r' = same Rides (suc i) (omega arith) in
        λ j. out_of_range h (o' j) (r' j) || not (before (o j) (r j) (o' j) (r' j))

    same_5 : refused_5 h (a Operators) (a Rides) ≡ refused_5 h (a' Operators) (a' Rides)
    unfolding refused_5
    same_5 = some_ext (misplaced h (a Operators) (a Rides)) (misplaced h (a' Operators) (a' Rides)) h.pairs same_misplaced

    same_stamp : (u v : ℕ) → u < h.operators → v < h.rides → get_or (a Stamps) (pair_place h u v) 0 ≡ get_or (a' Stamps) (pair_place h u v) 0
    same_stamp u v l k = same Stamps (pair_place h u v) (digits_lt l k)

    same_6 : (T (refused_5 h (a Operators) (a Rides)) → ⊥) → refused_6 b ≡ refused_6 b'
    unfolding refused_6
    same_6 n =
        let ps = table_pairs h (a Operators) (a Rides) n in
        some_ext _ _ h.pairs
        (λ i l. ap (λ (x : ℕ). eqb x 0)
        (same_stamp (get_or (a Operators) i 0) (get_or (a Rides) i 0) (ps.operator i l) (ps.ride i l) ∙
        ap₂ (λ (u v : ℕ). get_or (a' Stamps) (pair_place h u v) 0) (same Operators i (omega arith)) (same Rides i (omega arith))))

    same_entry : (x : ℕ) → x < mark_places h → entry_at b x ≡ entry_at b' x
    same_entry x l =
        let stamp = same PresenceStamps x l in
        let revision = same PresenceRevisions x l in
        let word = same Presence x l in
        λ j. record { stamp = stamp j; revision = revision j; word = word j }

    same_contents : (t : Slot) → Within h t → contents b t ≡ contents b' t
    same_contents (Pair u v) w =
        let stamp = same_stamp u v w.0 w.1 in
        let revision = same Revisions (pair_place h u v) (digits_lt w.0 w.1) in
        λ j. record { stamp = stamp j; revision = revision j; word = bit ((same_graph j).cleared u v) }
    same_contents (Operator u) w = same_entry u (omega arith)
    same_contents (Ride v) w = same_entry (ride_place h v) (omega arith)

    same_10 : (m : Message) → Within h (slot m) → refused_10 b m ≡ refused_10 b' m
    unfolding refused_10
    same_10 m w = ap (λ (e : Entry). not (later (entry m) e)) (same_contents (slot m) w)

    -- ---- the board after a taken message

    same_next : (m : Message) → board_of h (put (contents b) (slot m) (entry m)) ≡ board_of h (put (contents b') (slot m) (entry m))
    same_next m =
        board_of_same h (put (contents b) (slot m) (entry m)) (put (contents b') (slot m) (entry m))
        (λ t w. ap (λ (e : Entry). elim (same_slot t (slot m)) [ true ↦ entry m | false ↦ e ]) (same_contents t w))

    same_after : (m : Message) → exact (board_after b m) ≡ exact (board_after b' m)
    unfolding board_after
    same_after m = exact_onto h (put (contents b) (slot m) (entry m)) a ∙ same_next m ∙ sym (exact_onto h (put (contents b') (slot m) (entry m)) a')

    -- the index words that differ
    same_differ : (m : Message) → differing (index_places h) (a Index) ((board_after b m).part Index) ≡ differing (index_places h) (a' Index) ((board_after b' m).part Index)
    unfolding board_after differing
    same_differ m =
        let w : List ℕ = words h (put (contents b) (slot m) (entry m)) Index in
        let w' : List ℕ = words h (put (contents b') (slot m) (entry m)) Index in
        let new = ap (λ (x : Board). x.part Index) (same_next m) in
        count_ext _ _ (index_places h)
        (λ i l. ap₂ (λ (x y : ℕ). not (eqb x y)) (same Index i l)
        (get_or-append w (drop (length w) (a Index)) 0 i (omega (arith, length_words h (put (contents b) (slot m) (entry m)) Index)) ∙
        ap (λ (x : List ℕ). get_or x i 0) new ∙
        sym (get_or-append w' (drop (length w') (a' Index)) 0 i (omega (arith, length_words h (put (contents b') (slot m) (entry m)) Index)))))

  -- ---- the message

  -- a message gets the same number, where the parts of both are too short or of neither
  pub same_refusal : (m : Message) → board_short b ≡ board_short b' → message_refusal b m ≡ message_refusal b' m
  unfolding message_refusal
  same_refusal m short =
      first_same 1 (refused_1 h) (refused_1 h) _ _ refl (λ n1.
      first_same 2 (refused_2 h) (refused_2 h) _ _ refl (λ n2.
      first_same 3 (board_short b) (board_short b') _ _ short (λ n3.
      first_same 4 (refused_4 h) (refused_4 h) _ _ refl (λ n4.
      let fit = enough (pair_places h) h.pairs n4 in
      first_same 5 (refused_5 h (a Operators) (a Rides)) (refused_5 h (a' Operators) (a' Rides)) _ _ (same_5 fit) (λ n5.
      first_same 6 (refused_6 b) (refused_6 b') _ _ (same_6 fit n5) (λ n6.
      behind_same _ _ (valid_cases h m) (λ none.
      first_same 10 (refused_10 b m) (refused_10 b' m) [] [] (same_10 fit m (valid_none h m none).within) (λ n10. refl))))))))

  -- a taken message has the same answer, and leaves the same words
  pub same_message : (m : Message) → h.pairs ≤ pair_places h → message_refusal b m ≡ 0 → message_refusal b' m ≡ 0 → ((board_message b m).answer ≡ (board_message b' m).answer) × (exact (board_message b m).board ≡ exact (board_message b' m).board)
  same_message m fit e e' =
      let t = message_taken b m e in
      let t' = message_taken b' m e' in (
        ap (λ (o : MessageOutcome). o.answer) t ∙ (λ j. record { code = 0; differ = same_differ fit m j }) ∙ sym (ap (λ (o : MessageOutcome). o.answer) t'),
        ap (λ (o : MessageOutcome). exact o.board) t ∙ same_after fit m ∙ sym (ap (λ (o : MessageOutcome). exact o.board) t'),
      )
