-- Filling the index once, after the last message of a list, gives what the messages give one after another. With the messages up to a place entered
-- and the index as it came, the board differs from theirs in the index alone, which is that of its pairs once one message was taken.
use mathlib.Core.Path.{◌≡◌, refl, sym, ap, ap₂, ◌∙◌, subst}
use mathlib.Core.Bool.{Bool, true, false, not}
use mathlib.Core.List.{List, [], ◌∷◌, ◌++◌}
use Prim.Native.Nat.{ℕ, zero, suc, ◌+◌, ◌*◌, ◌≤◌, ◌<◌}
use native.Mathlib.Omega.{arith}
use native.Mathlib.Decide.{dec_lt}
use lib.Dec.{T, eqb, eqb→eq}
use borrow.Author.Tests.{eq-eqb, ne_eqb}
use lib.ListN.{length, get_or, set, drop, length-append, length-set}
use lib.Seq.{drop_at, get_or-set_same, get_or-set_other}
use Rattle.model.specs.declared.Message.{Message}
use Rattle.model.specs.Count.{count, some}
use Rattle.model.specs.Graph.{Graph, nodes, level, index_of}
use Rattle.model.specs.Layout.{Index, Parts, Board, index_places, over, onto, board_graph}
use Rattle.model.specs.Contents.{Slot, Pair, Operator, Ride, Contents, later, slot, entry, put, contents, words, board_of}
use Rattle.model.specs.Refusal.{refused_10, first_number, valid_cases, message_refusal, list_refusal}
use Rattle.model.specs.Message.{MessageOutcome, board_after, board_message, ListOutcome, in_order}
use Rattle.model.specs.Outcome.{listed_out}
use Rattle.model.proofs.Count.{test_true, test_ext, some_holds, some_witness, length_rows}
use Rattle.model.proofs.Refusal.{Accepted, message_accepted, list_none, list_accepted}
use Rattle.model.proofs.Contents.{length_words, index_words}
use Rattle.model.proofs.Taken.{message_taken, message_refused, message_code, accepted_message}
use Rattle.message_list_end.specs.Ending.{filled_index}
use Rattle.message_entry.specs.Enter.{with_index, entered_valid}
use Rattle.call_message_list.specs.Once.{finished, turned, turns}
use Rattle.call_message_list.proofs.Once.{with_own, accepted_with, turn_taken, turn_refused, turn_accepted}

-- ---- boards that differ in the index alone

module _ (b : Board) (index : List ℕ) where
  -- the contents don't look at the index
  says_with : contents (with_index b index) ≡ contents b
  says_with = λ j t. go t j
    where
      go : (t : Slot) → contents (with_index b index) t ≡ contents b t
      go (Pair u v) = refl
      go (Operator u) = refl
      go (Ride v) = refl

  -- nor does a message's number look at its words
  refusal_with : index_places b.head ≤ length index → Accepted b → (m : Message) → message_refusal (with_index b index) m ≡ message_refusal b m
  unfolding refused_10
  refusal_with l a m =
      message_accepted (with_index b index) m (accepted_with b index l a) ∙
      ap (λ (s : Contents). first_number (valid_cases b.head m ++ (10, not (later (entry m) (s (slot m)))) ∷ [])) says_with ∙
      sym (message_accepted b m a)

  -- a message entered
  entered_with : index_places b.head ≤ length index → Accepted b → (m : Message) → entered_valid (with_index b index) m ≡ with_index (board_message b m).board index
  unfolding board_after
  entered_with l a m = go (message_refusal b m) refl
    where
      go : (k : ℕ) → message_refusal b m ≡ k → entered_valid (with_index b index) m ≡ with_index (board_message b m).board index
      go zero e =
          turn_taken (with_index b index) m (accepted_with b index l a) (refusal_with l a m ∙ e) ∙
          ap (λ (s : Contents). with_index (onto (board_of b.head (put s (slot m) (entry m))) b.part) index) says_with ∙
          ap (λ (o : MessageOutcome). with_index o.board index) (sym (message_taken b m e))
      go (suc k) e =
          turn_refused (with_index b index) m (accepted_with b index l a) k (refusal_with l a m ∙ e) ∙ ap (λ (o : MessageOutcome). with_index o.board index) (sym (message_refused b m k e))

-- ---- the index of the messages one after another

-- the index of a board after messages on one with this index: as it came, or of the pairs
abbrev index_after : Bool → Board → List ℕ → List ℕ
index_after taken b index = elim taken [ true ↦ over (index_of (board_graph b)) index | false ↦ index ]

length_index : (g : Graph) → length (index_of g) ≡ g.rides * nodes g
unfolding index_of
length_index g = length_rows (nodes g) (λ (a x : ℕ). level g (suc a) x) g.rides

-- new words over words that were laid over others
over_over : (new old index : List ℕ) → length new ≡ length old → over new (over old index) ≡ over new index
over_over new old index e = ap (λ (l : List ℕ). new ++ l) (drop_at old (drop (length old) index) (length new) (sym e) ∙ ap (λ (k : ℕ). drop k index) (sym e))

module _ (b : Board) (m : Message) (index : List ℕ) (a : Accepted b) where
  -- after a taken message it is that of the new pairs, laid over the first one
  taken_index : (t : Bool) → b.part Index ≡ index_after t b index → message_refusal b m ≡ 0 → (board_message b m).board.part Index ≡ index_after true (board_message b m).board index
  unfolding board_after
  taken_index t q e =
      let s : Contents = put (contents b) (slot m) (entry m) in
      let behind : Parts = λ p. drop (length (words b.head s p)) (b.part p) in
      let w : List ℕ = words b.head s Index in
      let laid : (t : Bool) → over w (index_after t b index) ≡ over w index = λ t. elim t as (λ (t : Bool). over w (index_after t b index) ≡ over w index) [ true ↦ over_over w (index_of (board_graph b)) index (length_words b.head s Index ∙ sym (length_index (board_graph b))) | false ↦ refl ] in
      let done : over w (b.part Index) ≡ over (index_of (board_graph (board_after b m))) index = ap (over w) q ∙ laid t ∙ ap (λ (l : List ℕ). over l index) (index_words b.head s behind) in
      subst (λ (o : MessageOutcome). o.board.part Index ≡ index_after true o.board index) (sym (message_taken b m e)) done

  refused_index : (t : Bool) (k : ℕ) → b.part Index ≡ index_after t b index → message_refusal b m ≡ suc k → (board_message b m).board.part Index ≡ index_after t (board_message b m).board index
  refused_index t k q e = subst (λ (o : MessageOutcome). o.board.part Index ≡ index_after t o.board index) (sym (message_refused b m k e)) q

-- ---- whether one message was taken, by the numbers stored

abbrev any : ℕ → List ℕ → Bool
any n answers = some n (λ i. eqb (get_or answers i 0) 0)

any_none : (answers : List ℕ) → any 0 answers ≡ false
unfolding some count
any_none answers = refl

module _ (answers : List ℕ) (at code : ℕ) (room : at < length answers) where
  any_taken_here : code ≡ 0 → any (at + 1) (set answers at code) ≡ true
  any_taken_here e = test_true (any (at + 1) (set answers at code)) (some_holds (λ i. eqb (get_or (set answers at code) i 0) 0) (at + 1) at (omega arith) (subst T (sym (eq-eqb (get_or (set answers at code) at 0) 0 (get_or-set_same answers at code 0 room ∙ e))) tt))

  any_not_here : (code ≡ 0 → ⊥) → any (at + 1) (set answers at code) ≡ any at answers
  any_not_here n =
      test_ext (any (at + 1) (set answers at code)) (any at answers)
      (λ t. let w = some_witness (λ i. eqb (get_or (set answers at code) i 0) 0) (at + 1) t in
      elim (dec_lt w.0 at) [
        | yes l ↦ some_holds (λ i. eqb (get_or answers i 0) 0) at w.0 l (subst (λ (x : ℕ). T (eqb x 0)) (get_or-set_other answers at w.0 code 0 (omega arith)) w.2)
        | no l ↦ (let e : w.0 ≡ at = omega (arith, w.1) in absurd (n (sym (get_or-set_same answers at code 0 room) ∙ ap (λ (k : ℕ). get_or (set answers at code) k 0) (sym e) ∙ eqb→eq (get_or (set answers at code) w.0 0) 0 w.2)))
      ])
      (λ t. let w = some_witness (λ i. eqb (get_or answers i 0) 0) at t in
      some_holds (λ i. eqb (get_or (set answers at code) i 0) 0) (at + 1) w.0 (omega (arith, w.1)) (subst (λ (x : ℕ). T (eqb x 0)) (sym (get_or-set_other answers at w.0 code 0 (omega (arith, w.1)))) w.2))

-- the index after one message more, by the numbers stored
next_index : (b : Board) (m : Message) (index answers : List ℕ) (at : ℕ) → Accepted b → at < length answers → b.part Index ≡ index_after (any at answers) b index →
    (board_message b m).board.part Index ≡ index_after (any (at + 1) (set answers at (message_refusal b m))) (board_message b m).board index
next_index b m index answers at a room q = go (message_refusal b m) refl
  where
    go : (k : ℕ) → message_refusal b m ≡ k → (board_message b m).board.part Index ≡ index_after (any (at + 1) (set answers at (message_refusal b m))) (board_message b m).board index
    go zero e =
        subst (λ (t : Bool). (board_message b m).board.part Index ≡ index_after t (board_message b m).board index) (sym (any_taken_here answers at (message_refusal b m) room e))
        (taken_index b m index a (any at answers) q e)
    go (suc k) e =
        subst (λ (t : Bool). (board_message b m).board.part Index ≡ index_after t (board_message b m).board index) (sym (any_not_here answers at (message_refusal b m) room (λ z. let y : ⊥ = omega (arith, e) in y)))
        (refused_index b m index a (any at answers) k q e)

-- ---- all turns

-- a message leaves the sizes
sizes_kept : (b : Board) (m : Message) → index_places (board_message b m).board.head ≡ index_places b.head
unfolding board_after
sizes_kept b m = go (message_refusal b m) refl
  where
    go : (k : ℕ) → message_refusal b m ≡ k → index_places (board_message b m).board.head ≡ index_places b.head
    go zero e = ap (λ (o : MessageOutcome). index_places o.board.head) (message_taken b m e)
    go (suc k) e = ap (λ (o : MessageOutcome). index_places o.board.head) (message_refused b m k e)

module _ (n : ℕ) (index : List ℕ) where
  module _ (b : Board) (m : Message) (at : ℕ) (answers : List ℕ) (a : Accepted b) (long : index_places b.head ≤ length index) where
    abbrev stale : Board
    stale = with_index b index

    abbrev next : Board
    next = (board_message b m).board

    abbrev numbers : List ℕ
    numbers = set answers at (message_refusal b m)

    same_code : (board_message stale m).answer.code ≡ message_refusal b m
    same_code = message_code stale m ∙ refusal_with b index long a m

    turned_on : (at + 1 ≡ n → ⊥) → turned n stale m at answers ≡ listed_out 0 (with_index next index) numbers
    unfolding turned
    turned_on ne = rw (ne_eqb (at + 1) n ne, turned) (ap₂ (listed_out 0) (entered_with b index long a m) (ap (set answers at) same_code))

    turned_last : at + 1 ≡ n → at < length answers → b.part Index ≡ index_after (any at answers) b index → turned n stale m at answers ≡ listed_out 0 next numbers
    unfolding turned filled_index
    turned_last e room q =
        let last : index_after (any n numbers) next index ≡ next.part Index = ap (λ (k : ℕ). index_after (any k numbers) next index) (sym e) ∙ sym (next_index b m index answers at a room q) in
        rw (eq-eqb (at + 1) n e, turned) (ap₂ (λ (x : Board) (l : List ℕ). listed_out 0 (finished n x l) l) (entered_with b index long a m) (ap (set answers at) same_code) ∙ ap (λ (l : List ℕ). listed_out 0 (with_index next l) numbers) last ∙ ap (λ (x : Board). listed_out 0 x numbers) (with_own next))

  once_from : (m : Message) (ms : List Message) (at : ℕ) (b : Board) (answers : List ℕ) → Accepted b → index_places b.head ≤ length index → at + suc (length ms) ≡ n → n ≤ length answers → b.part Index ≡ index_after (any at answers) b index →
      turns n (m ∷ ms) at (with_index b index) answers ≡ in_order (m ∷ ms) at b answers
  unfolding turns in_order
  once_from m [] at b answers a long e room q =
      ap (λ (o : ListOutcome). listed_out 0 o.board o.answers) (turned_last b m at answers a long (omega arith) (omega arith) q) ∙ ap (λ (k : ℕ). listed_out 0 (board_message b m).board (set answers at k)) (sym (message_code b m))
  once_from m (m' ∷ ms) at b answers a long e room q =
      let next : Board = (board_message b m).board in
      let l = set answers at (message_refusal b m) in
      ap (λ (o : ListOutcome). turns n (m' ∷ ms) (suc at) o.board o.answers) (turned_on b m at answers a long (λ z. let y : ⊥ = omega arith in y)) ∙
      once_from m' ms (suc at) next l (accepted_message b m a) (omega (arith, sizes_kept b m)) (omega arith) (omega (arith, length-set answers at (message_refusal b m))) (subst (λ (k : ℕ). next.part Index ≡ index_after (any k l) next index) (let z : at + 1 ≡ suc at = omega arith in z) (next_index b m index answers at a (omega arith) q)) ∙
      ap (λ (k : ℕ). in_order (m' ∷ ms) (suc at) next (set answers at k)) (sym (message_code b m))

-- a list whose messages are entered and whose index is filled once ends as its messages taken in order
pub filled_once : (b : Board) (ms : List Message) (answers : List ℕ) → list_refusal b (length ms) answers ≡ 0 → turns (length ms) ms 0 b answers ≡ in_order ms 0 b answers
unfolding turns in_order
filled_once b [] answers e = refl
filled_once b (m ∷ ms) answers e =
    let a = list_none b (length (m ∷ ms)) answers e in
    ap (λ (x : Board). turns (length (m ∷ ms)) (m ∷ ms) 0 x answers) (sym (with_own b)) ∙
    once_from (length (m ∷ ms)) (b.part Index) m ms 0 b answers a.0 (a.0.table.long Index) (omega arith) a.1 (sym (ap (λ (t : Bool). index_after t b (b.part Index)) (any_none answers)))

-- ---- 1 to 6 do not apply after a turn

module _ (n : ℕ) (b : Board) (m : Message) (at : ℕ) (answers : List ℕ) (none : list_refusal b n answers ≡ 0) where
  ready : Accepted b
  ready = (list_none b n answers none).0

  length_filled : (g : Graph) (index l : List ℕ) → g.rides * nodes g ≤ length index → g.rides * nodes g ≤ length (filled_index n g index l)
  unfolding filled_index
  length_filled g index l k =
      elim (any n l) as (λ (t : Bool). g.rides * nodes g ≤ length {A = ℕ} (elim t [ true ↦ over (index_of g) index | false ↦ index ])) [
        | true ↦ omega (arith, length_index g, length-append (index_of g) (drop (length (index_of g)) index))
        | false ↦ k
      ]

  pub turned_keeps : list_refusal (turned n b m at answers).board n (turned n b m at answers).answers ≡ 0
  unfolding turned
  turned_keeps =
      let e : Board = entered_valid b m in
      let k = turn_accepted b m ready in
      let l : List ℕ = set answers at (board_message b m).answer.code in
      let room : n ≤ length l = omega (arith, length-set answers at (board_message b m).answer.code, (list_none b n answers none).1) in
      let keeps : Accepted e = k.0 in
      let fills : Accepted (finished n e l) = accepted_with e (filled_index n (board_graph e) (e.part Index) l) (length_filled (board_graph e) (e.part Index) l (keeps.table.long Index)) keeps in
      list_accepted (turned n b m at answers).board n l (elim (eqb (at + 1) n) as (λ (t : Bool). Accepted (elim t [ true ↦ finished n e l | false ↦ e ])) [ true ↦ fills | false ↦ keeps ]) room
