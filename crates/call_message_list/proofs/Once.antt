-- The turns of a message list: laws of one turn.
use mathlib.Core.Path.{◌≡◌, refl, sym, ap, ap₂, ◌∙◌, subst}
use mathlib.Core.Logic.{◌≢◌}
use mathlib.Core.List.{List}
use Prim.Native.Nat.{ℕ, zero, suc, ◌+◌, ◌≤◌}
use native.Mathlib.Omega.{arith}
use lib.Dec.{T, eqb, eqb→eq}
use borrow.Author.Tests.{eq-eqb, ne_eqb}
use lib.ListN.{length, set}
use Rattle.model.specs.declared.Message.{Message}
use Rattle.model.specs.Layout.{Operators, Rides, Stamps, Revisions, Index, PresenceStamps, PresenceRevisions, Presence, Board, index_places, places, board_graph}
use Rattle.model.specs.Refusal.{message_refusal, list_refusal}
use Rattle.model.specs.Message.{board_after, board_message, ListOutcome}
use Rattle.model.specs.Outcome.{listed_out}
use Rattle.model.proofs.Count.{by_test}
use Rattle.model.proofs.Parts.{by_part}
use Rattle.model.proofs.Refusal.{Accepted, taken_none, message_accepted, list_none}
use Rattle.model.proofs.Taken.{message_code, accepted_after}
use Rattle.index_board.specs.Filled.{Fillable}
use Rattle.refusal_message.specs.Room.{Room}
use Rattle.message_entry.specs.Enter.{with_index, entered, number_of, entered_valid}
use Rattle.message_entry.proofs.Entering.{entered_none, entered_refused}
use Rattle.pairs.proofs.Table.{accepted_pairs}
use Rattle.message_entry.proofs.Next.{room_of}
use Rattle.message_list_end.specs.Ending.{index_turned}
use Rattle.message_list_end.proofs.Ending.{index_last, index_on}
use Rattle.call_message_list.specs.Once.{finished, turned}

-- a board with its own index
pub with_own : (b : Board) → with_index b (b.part Index) ≡ b
with_own b = λ j. record { head = b.head; part = λ p. by_part (λ q. (with_index b (b.part Index)).part q ≡ b.part q) refl refl refl refl refl refl refl refl p j }

-- ---- one turn

-- 1 to 6 look at no word of the index
pub accepted_with : (b : Board) (index : List ℕ) → index_places b.head ≤ length index → Accepted b → Accepted (with_index b index)
accepted_with b index l a =
    let long = a.table.long in
    record {
      table = record {
        few_operators = a.table.few_operators;
        few_rides = a.table.few_rides;
        long = by_part (λ p. places b.head p ≤ length ((with_index b index).part p)) (long Operators) (long Rides) (long Stamps) (long Revisions) l (long PresenceStamps) (long PresenceRevisions) (long Presence);
        pairs = a.table.pairs;
      };
      stamped = a.stamped;
    }

module _ (b : Board) (m : Message) (a : Accepted b) where
  pub turn_taken : message_refusal b m ≡ 0 → entered_valid b m ≡ with_index (board_after b m) (b.part Index)
  unfolding entered
  turn_taken e = sym (entered_none b m (sym (message_accepted b m a) ∙ e))

  pub turn_refused : (k : ℕ) → message_refusal b m ≡ suc k → entered_valid b m ≡ b
  turn_refused k e = sym (entered_refused b m (suc k) (sym e ∙ message_accepted b m a) (λ z. let y : ⊥ = omega arith in y))

  -- 1 to 6 do not apply to the board after it
  pub turn_accepted : Accepted (entered_valid b m) × (index_places (entered_valid b m).head ≤ length (b.part Index))
  unfolding board_after
  turn_accepted = go (message_refusal b m) refl
    where
      go : (k : ℕ) → message_refusal b m ≡ k → Accepted (entered_valid b m) × (index_places (entered_valid b m).head ≤ length (b.part Index))
      go zero e =
          subst (λ (x : Board). Accepted x × (index_places x.head ≤ length (b.part Index))) (sym (turn_taken e))
          (accepted_with (board_after b m) (b.part Index) (a.table.long Index) (accepted_after b m a (taken_none b m e).1), a.table.long Index)
      go (suc k) e = subst (λ (x : Board). Accepted x × (index_places x.head ≤ length (b.part Index))) (sym (turn_refused k e)) (a, a.table.long Index)

module _ (b : Board) (m : Message) (n : ℕ) (answers : List ℕ) (none : list_refusal b n answers ≡ 0) where
  accepted : Accepted b
  accepted = (list_none b n answers none).0

  pub turn_room : Room b
  turn_room = room_of b accepted

  pub turn_answers : n ≤ length answers
  turn_answers = (list_none b n answers none).1

  -- x is the board once the message is entered, and code the message's number
  module _ (code : ℕ) (x : Board) (done : (code ≡ number_of b m) × (x ≡ entered_valid b m)) where
    pub turn_ready : Fillable x
    turn_ready =
        let t = (turn_accepted b m accepted).0.table in
        subst Fillable (sym done.1) (record { pairs = accepted_pairs (entered_valid b m) t; presence = t.long Presence; index = t.long Index })

    module _ (at : ℕ) where
      abbrev numbers : ℕ → List ℕ
      numbers k = set answers at k

      same_numbers : numbers code ≡ numbers (board_message b m).answer.code
      same_numbers = ap numbers (done.0 ∙ sym (message_accepted b m accepted) ∙ sym (message_code b m))

      turn_on : at + 1 ≢ n → listed_out 0 x (numbers code) ≡ turned n b m at answers
      unfolding turned
      turn_on ne = ap₂ (listed_out 0) done.1 same_numbers ∙ rw (ne_eqb (at + 1) n ne, turned)

      turn_last : at + 1 ≡ n → listed_out 0 (finished n x (numbers code)) (numbers code) ≡ turned n b m at answers
      unfolding turned
      turn_last e = ap₂ (λ (y : Board) (l : List ℕ). listed_out 0 (finished n y l) l) done.1 same_numbers ∙ rw (eq-eqb (at + 1) n e, turned)

      pub turn_done : listed_out 0 (with_index x (index_turned at n (board_graph x) (x.part Index) (numbers code))) (numbers code) ≡ turned n b m at answers
      turn_done =
          let with_words : List ℕ → ListOutcome = λ l. listed_out 0 (with_index x l) (numbers code) in
          by_test (eqb (at + 1) n)
          (λ t. let e = eqb→eq (at + 1) n t in ap with_words (index_last at n _ _ _ e) ∙ turn_last e)
          (λ f.
          let ne : at + 1 ≢ n = λ e. f (subst T (sym (eq-eqb (at + 1) n e)) tt) in
          ap with_words (index_on at n _ _ _ ne) ∙ ap (λ (y : Board). listed_out 0 y (numbers code)) (with_own x) ∙ turn_on ne)
