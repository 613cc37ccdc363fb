-- Laws of a message list, turn by turn: one more turn, and the list's end.
use mathlib.Core.Path.{◌≡◌, refl, sym, ap, ◌∙◌, subst}
use mathlib.Core.Logic.{◌≢◌}
use mathlib.Core.List.{List}
use Prim.Native.Nat.{ℕ, zero, suc, ◌+◌, ◌≤◌, ◌<◌}
use native.Mathlib.Numerals.{add-one}
use lib.ListN.{length, get_or, drop, drop_of_length-le}
use lib.Seq.{drop-cons}
use Rattle.model.specs.declared.Message.{Message}
use Rattle.model.specs.Layout.{Board}
use Rattle.model.specs.Refusal.{list_refusal}
use Rattle.model.specs.Message.{ListOutcome, board_messages}
use Rattle.model.specs.Outcome.{listed_out}
use Rattle.model.proofs.Taken.{list_taken, list_refused}
use Rattle.call_message_list.specs.Once.{turned, turns}
use Rattle.call_message_list.proofs.List.{filled_once, turned_keeps}

-- what lies past a list's end
abbrev pub nil : Message
nil = record { kind = 0; operator = 0; ride = 0; revision = 0; stamp = 0 }

-- a list that is not refused isn't after a turn
pub ready_more : (n : ℕ) (b b' : Board) (m : Message) (i : ℕ) (answers answers' : List ℕ) → list_refusal b n answers ≡ 0 → listed_out 0 b' answers' ≡ turned n b m i answers → list_refusal b' n answers' ≡ 0
ready_more n b b' m i answers answers' none e = subst (λ (o : ListOutcome). list_refusal o.board n o.answers ≡ 0) (sym e) (turned_keeps n b m i answers none)

module _ (ms : List Message) (n : ℕ) (whole : ListOutcome) where
  -- one more message
  pub one_more : (i : ℕ) (b b' : Board) (answers answers' : List ℕ) → i < length ms → turns n (drop i ms) i b answers ≡ whole
      → listed_out 0 b' answers' ≡ turned n b (get_or ms i nil) i answers → turns n (drop (i + 1) ms) (i + 1) b' answers' ≡ whole
  unfolding turns
  one_more i b b' answers answers' l h e = rw (add-one, ap (λ (o : ListOutcome). o.board) e, ap (λ (o : ListOutcome). o.answers) e) (rw (drop-cons ms i nil l) at h)

  -- all messages had their turn
  pub all_turned : (i : ℕ) (b : Board) (answers : List ℕ) → length ms ≤ i → turns n (drop i ms) i b answers ≡ whole → listed_out 0 b answers ≡ whole
  unfolding turns
  all_turned i b answers l h = rw (drop_of_length-le ms {i = i} l) at h

module _ (b : Board) (ms : List Message) (answers : List ℕ) where
  -- a list that is not refused gives what its turns give
  pub list_ended : (b' : Board) (answers' : List ℕ) → list_refusal b (length ms) answers ≡ 0 → listed_out 0 b' answers' ≡ turns (length ms) ms 0 b answers → listed_out 0 b' answers' ≡ board_messages b ms answers
  list_ended b' answers' none h = h ∙ filled_once b ms answers none ∙ sym (list_taken b ms answers none)

  -- a list that is refused leaves all as it came
  pub list_kept : (k : ℕ) → k ≡ list_refusal b (length ms) answers → k ≢ 0 → listed_out k b answers ≡ board_messages b ms answers
  list_kept zero e n = absurd (n refl)
  list_kept (suc k) e n = sym (list_refused b ms answers k (sym e))
