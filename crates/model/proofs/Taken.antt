-- Laws of messages on any board: what the board says after a taken message, and that 1 to 6 do not apply to it.
use mathlib.Core.Path.{◌≡◌, refl, sym, ap, ◌∙◌, subst}
use mathlib.Core.List.{List}
use Prim.Native.Nat.{ℕ, zero, suc, ◌≤◌}
use lib.Dec.{T}
use lib.ListN.{length, drop}
use Rattle.model.specs.declared.Message.{Message}
use Rattle.model.specs.Layout.{Index, Parts, Board, index_places, listed_graph, differing}
use Rattle.model.specs.Contents.{Slot, Pair, Entry, gives, Contents, slot, entry, put, given, contents, words}
use Rattle.model.specs.Refusal.{message_refusal, list_refusal}
use Rattle.model.specs.Message.{MessageOutcome, board_after, board_message, in_order, board_messages}
use Rattle.model.proofs.Count.{bit_test}
use Rattle.model.proofs.Refusal.{Accepted, Within, Valid, taken_none, list_none, list_accepted}
use Rattle.model.proofs.Contents.{by_slot, put_same, put_other, plain_entry, plain_contents, plain_put, contents_of, accepted_of}

-- ---- taken or refused

module _ (b : Board) (m : Message) where
  pub message_taken : message_refusal b m ≡ 0 → board_message b m ≡ record { answer = record { code = 0; differ = differing (index_places b.head) (b.part Index) ((board_after b m).part Index) }; board = board_after b m }
  unfolding board_message
  message_taken e = rw (e, board_message)

  pub message_refused : (k : ℕ) → message_refusal b m ≡ suc k → board_message b m ≡ record { answer = record { code = suc k; differ = 0 }; board = b }
  unfolding board_message
  message_refused k e = rw (e, board_message)

  -- the number of a message call is that of its refusal
  pub message_code : (board_message b m).answer.code ≡ message_refusal b m
  message_code = go (message_refusal b m) refl
    where
      go : (k : ℕ) → message_refusal b m ≡ k → (board_message b m).answer.code ≡ k
      go zero e = ap (λ (o : MessageOutcome). o.answer.code) (message_taken e)
      go (suc k) e = ap (λ (o : MessageOutcome). o.answer.code) (message_refused k e)

  -- ---- the board after a taken message

  abbrev next : Contents
  next = put (contents b) (slot m) (entry m)

  abbrev behind : Parts
  behind p = drop (length (words b.head next p)) (b.part p)

  -- it says the message's entry at the message's slot, and all else as before
  pub says_after : (t : Slot) → Within b.head t → contents (board_after b m) t ≡ next t
  unfolding board_after
  says_after t w = contents_of b.head next behind t w (plain_put (contents b) (slot m) (entry m) t (plain_entry t m) (plain_contents b t))

  next_stamped : Accepted b → Valid b.head m → (u v : ℕ) → T (given next u v) → 1 ≤ (next (Pair u v)).stamp
  next_stamped a valid u v =
      by_slot (Pair u v) (slot m)
      (λ q. subst (λ (e : Entry). T (gives e) → 1 ≤ e.stamp) (sym (ap next q ∙ put_same (contents b) (slot m) (entry m))) (λ g. valid.stamp))
      (λ n. subst (λ (e : Entry). T (gives e) → 1 ≤ e.stamp) (sym (put_other (contents b) (slot m) (entry m) (Pair u v) n)) (λ g. a.stamped u v (subst T (bit_test ((listed_graph b).cleared u v)) g)))

  -- 1 to 6 do not apply to it
  pub accepted_after : Accepted b → Valid b.head m → Accepted (board_after b m)
  unfolding board_after
  accepted_after a v = accepted_of b.head next behind a.table.few_operators a.table.few_rides (λ u w p q. next_stamped a v u w)

  -- nor to the board after any message
  pub accepted_message : Accepted b → Accepted (board_message b m).board
  accepted_message a = go (message_refusal b m) refl
    where
      go : (n : ℕ) → message_refusal b m ≡ n → Accepted (board_message b m).board
      go zero e = subst (λ (o : MessageOutcome). Accepted o.board) (sym (message_taken e)) (accepted_after a (taken_none b m e).1)
      go (suc k) e = subst (λ (o : MessageOutcome). Accepted o.board) (sym (message_refused k e)) a

-- ---- a list: in order, or refused

module _ (b : Board) (ms : List Message) (answers : List ℕ) where
  pub list_taken : list_refusal b (length ms) answers ≡ 0 → board_messages b ms answers ≡ in_order ms 0 b answers
  unfolding board_messages
  list_taken e = rw (e, board_messages)

  pub list_refused : (k : ℕ) → list_refusal b (length ms) answers ≡ suc k → board_messages b ms answers ≡ record { code = suc k; board = b; answers = answers }
  unfolding board_messages
  list_refused k e = rw (e, board_messages)

-- a list that is not refused is not refused after any of its messages
pub list_keeps : (b : Board) (m : Message) (messages : ℕ) (answers : List ℕ) → list_refusal b messages answers ≡ 0 → list_refusal (board_message b m).board messages answers ≡ 0
list_keeps b m messages answers e =
    let a = list_none b messages answers e in
    list_accepted (board_message b m).board messages answers (accepted_message b m a.0) a.1
