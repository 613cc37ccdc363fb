-- Laws of previews: refused, or the message on a copy of the board in spare memory, where it gives what it gives on the board.
use mathlib.Core.Path.{◌≡◌, refl, sym, ap, ◌∙◌, subst}
use mathlib.Core.Logic.{◌≢◌}
use mathlib.Core.Bool.{Bool, true, false, ◌||◌}
use mathlib.Core.List.{List, [], ◌∷◌, ◌++◌}
use Prim.Native.Nat.{ℕ, zero, suc, ◌≤◌, ◌<◌}
use native.Mathlib.Omega.{arith}
use lib.Dec.{T, ltb}
use lib.ListN.{length, get_or, take, drop, length-append, get_or-append}
use lib.Seq.{length-take-le, get_or-take, drop_at}
use Rattle.model.specs.declared.Message.{Message}
use Rattle.model.specs.Graph.{present}
use Rattle.model.specs.Layout.{Part, Operators, Rides, Index, Presence, Parts, Board, mark_places, places, all_parts, some_part, of_parts, exact, copied, listed_graph, board_graph}
use Rattle.model.specs.Contents.{Contents, slot, entry, put, contents, words}
use Rattle.model.specs.Refusal.{refused_1, refused_2, first_number, board_short, board_cases, message_cases, message_refusal, preview_refusal}
use Rattle.model.specs.Calls.{board_query}
use Rattle.model.specs.Message.{MessageOutcome, board_after, board_message, board_preview}
use Rattle.model.specs.QueryLaws.{IsCore}
use Rattle.model.specs.PreviewLaws.{PreviewLaws, PreviewThenQuery}
use Rattle.model.proofs.Count.{test_false, or_left, or_right, or_false}
use Rattle.model.proofs.Chain.{first_same, first_here}
use Rattle.model.proofs.Parts.{long_board}
use Rattle.model.proofs.Pairs.{pairs_fit}
use Rattle.model.proofs.Contents.{length_words, index_words}
use Rattle.model.proofs.Refusal.{Accepted, accepted_none, taken_none, message_accepted}
use Rattle.model.proofs.Taken.{message_taken, message_code}
use Rattle.model.proofs.Exact.{same_refusal, same_message}
use Rattle.model.proofs.EndToEnd.{index_then_query}

-- ---- a copy

module _ (b : Board) (spare : Parts) (long : (p : Part) → places b.head p ≤ length (b.part p)) where
  -- it has the board's words to the lengths under Layout
  pub same_copy : (p : Part) (i : ℕ) → i < places b.head p → get_or (b.part p) i 0 ≡ get_or ((copied b spare).part p) i 0
  unfolding copied
  same_copy p i l =
      let n : ℕ = places b.head p in
      sym (get_or-append (take n (b.part p)) _ 0 i (omega (arith, length-take-le n (b.part p) (long p))) ∙ get_or-take n (b.part p) i 0 l)

  -- its parts are long enough
  pub copy_long : (p : Part) → places b.head p ≤ length ((copied b spare).part p)
  unfolding copied
  copy_long p = omega (arith, length-append (take (places b.head p) (b.part p)) (drop (length (take (places b.head p) (b.part p))) (spare p)), length-take-le (places b.head p) (b.part p) (long p))

  -- and behind them lie the spare memory's own words
  pub copy_behind : (p : Part) → drop (places b.head p) ((copied b spare).part p) ≡ drop (places b.head p) (spare p)
  unfolding copied
  copy_behind p =
      let n : ℕ = places b.head p in
      let e : length (take n (b.part p)) ≡ n = length-take-le n (b.part p) (long p) in
      drop_at (take n (b.part p)) _ n e ∙ ap (λ (k : ℕ). drop k (spare p)) e

-- ---- the number

module _ (b : Board) (m : Message) (spare : Parts) where
  -- 3, of the spare memory
  abbrev spare_short : Bool
  spare_short = board_short (of_parts b.head spare)

  -- where a spare part is too short, the first of 1, 2 and 3 that applies
  preview_short : spare_short ≡ true → preview_refusal b m spare ≡ first_number ((1, refused_1 b.head) ∷ (2, refused_2 b.head) ∷ (3, true) ∷ [])
  unfolding preview_refusal
  preview_short s =
      first_same 1 (refused_1 b.head) (refused_1 b.head) _ _ refl (λ n1.
      first_same 2 (refused_2 b.head) (refused_2 b.head) _ _ refl (λ n2.
      first_here 3 (board_short b || spare_short) _ (or_right (board_short b) spare_short (subst T (sym s) tt)) ∙ sym (first_here 3 true [] tt)))

  -- where none is, the message's own
  preview_message : spare_short ≡ false → preview_refusal b m spare ≡ message_refusal b m
  unfolding preview_refusal message_refusal
  preview_message s = ap (λ (t : Bool). first_number (board_cases b t ++ message_cases b m)) (ap (λ (t : Bool). board_short b || t) s ∙ or_false (board_short b))

  -- a preview that is not refused: its message is not refused on the board, and no spare part is too short
  pub preview_none : preview_refusal b m spare ≡ 0 → Accepted b × (T spare_short → ⊥) × (message_refusal b m ≡ 0)
  unfolding preview_refusal
  preview_none e =
      let a = accepted_none b (board_short b || spare_short) (message_cases b m) (or_left (board_short b) spare_short) e in
      (a.0, λ t. a.1 (or_right (board_short b) spare_short t), message_accepted b m a.0 ∙ a.2)

  -- nor on the copy
  pub copy_taken : preview_refusal b m spare ≡ 0 → message_refusal (copied b spare) m ≡ 0
  unfolding copied
  copy_taken e =
      let n = preview_none e in
      let long = n.0.table.long in
      let short = test_false (board_short b) (long_board b long) ∙ sym (test_false (board_short (copied b spare)) (long_board (copied b spare) (copy_long b spare long))) in
      sym (same_refusal b.head b.part (copied b spare).part (same_copy b spare long) m short) ∙ n.2

-- it looks at no word of the spare memory
preview_lengths : (b : Board) (m : Message) (spare other : Parts) → ((p : Part) → length (spare p) ≡ length (other p)) → preview_refusal b m spare ≡ preview_refusal b m other
unfolding preview_refusal board_short
preview_lengths b m spare other e = λ j.
    first_number (board_cases b (board_short b || some_part (λ p. ltb (e p j) (places b.head p)) all_parts) ++ message_cases b m)

-- ---- refused or taken

module _ (b : Board) (m : Message) (spare : Board) where
  pub preview_taken : preview_refusal b m spare.part ≡ 0 → board_preview b m spare ≡ board_message (copied b spare.part) m
  unfolding board_preview
  preview_taken e = rw (e, board_preview)

  pub preview_refused : (k : ℕ) → preview_refusal b m spare.part ≡ suc k → board_preview b m spare ≡ record { answer = record { code = suc k; differ = 0 }; board = spare }
  unfolding board_preview
  preview_refused k e = rw (e, board_preview)

  -- the number of a preview is that of its refusal
  pub preview_code : (board_preview b m spare).answer.code ≡ preview_refusal b m spare.part
  preview_code = go (preview_refusal b m spare.part) refl
    where
      go : (k : ℕ) → preview_refusal b m spare.part ≡ k → (board_preview b m spare).answer.code ≡ k
      go zero e = ap (λ (o : MessageOutcome). o.answer.code) (preview_taken e) ∙ message_code (copied b spare.part) m ∙ copy_taken b m spare.part e
      go (suc k) e = ap (λ (o : MessageOutcome). o.answer.code) (preview_refused k e)

  refusal_none : (board_preview b m spare).answer.code ≡ 0 → preview_refusal b m spare.part ≡ 0
  refusal_none z = sym preview_code ∙ z

  -- the message sent to the board, and on the copy
  sent : (board_preview b m spare).answer.code ≡ 0 → ((board_message b m).answer ≡ (board_preview b m spare).answer) × (exact (board_message b m).board ≡ exact (board_preview b m spare).board)
  unfolding copied
  sent z =
      let e = refusal_none z in
      let n = preview_none b m spare.part e in
      let fit = pairs_fit b.head (b.part Operators) (b.part Rides) (listed_graph b).cleared n.0.table.pairs in
      let s = same_message b.head b.part (copied b spare.part).part (same_copy b spare.part n.0.table.long) m fit n.2 (copy_taken b m spare.part e) in
      let t = preview_taken e in
      (s.0 ∙ ap (λ (o : MessageOutcome). o.answer) (sym t), s.1 ∙ ap (λ (o : MessageOutcome). exact o.board) (sym t))

  -- refused, with the number at hand
  pub preview_kept : (k : ℕ) → preview_refusal b m spare.part ≡ k → k ≢ 0 → board_preview b m spare ≡ record { answer = record { code = k; differ = 0 }; board = spare }
  preview_kept zero e n = absurd (n refl)
  preview_kept (suc k) e n = preview_refused k e

-- a taken message leaves what lies behind the lengths under Layout
after_behind : (b : Board) (m : Message) (p : Part) → drop (places b.head p) ((board_after b m).part p) ≡ drop (places b.head p) (b.part p)
unfolding board_after
after_behind b m p =
    let e = length_words b.head (put (contents b) (slot m) (entry m)) p in
    drop_at (words b.head (put (contents b) (slot m) (entry m)) p) _ (places b.head p) e ∙ ap (λ (k : ℕ). drop k (b.part p)) e

module _ (b : Board) (m : Message) (spare : Board) where
  behind : (p : Part) → drop (places b.head p) ((board_preview b m spare).board.part p) ≡ drop (places b.head p) (spare.part p)
  unfolding copied
  behind p = go (preview_refusal b m spare.part) refl
    where
      go : (k : ℕ) → preview_refusal b m spare.part ≡ k → drop (places b.head p) ((board_preview b m spare).board.part p) ≡ drop (places b.head p) (spare.part p)
      go zero e =
          let c : Board = copied b spare.part in
          ap (λ (o : MessageOutcome). drop (places b.head p) (o.board.part p)) (preview_taken b m spare e ∙ message_taken c m (copy_taken b m spare.part e)) ∙
          after_behind c m p ∙
          copy_behind b spare.part (preview_none b m spare.part e).0.table.long p
      go (suc k) e = ap (λ (o : MessageOutcome). drop (places b.head p) (o.board.part p)) (preview_refused b m spare k e)

  any_answer : (other : Board) → ((p : Part) → length (spare.part p) ≡ length (other.part p)) → (board_preview b m spare).answer ≡ (board_preview b m other).answer
  any_answer other l = go (preview_refusal b m spare.part) refl
    where
      same : preview_refusal b m spare.part ≡ preview_refusal b m other.part
      same = preview_lengths b m spare.part other.part l

      go : (k : ℕ) → preview_refusal b m spare.part ≡ k → (board_preview b m spare).answer ≡ (board_preview b m other).answer
      go zero e = sym (sent b m spare (preview_code b m spare ∙ e)).0 ∙ (sent b m other (preview_code b m other ∙ sym same ∙ e)).0
      go (suc k) e = ap (λ (o : MessageOutcome). o.answer) (preview_refused b m spare k e) ∙ sym (ap (λ (o : MessageOutcome). o.answer) (preview_refused b m other k (sym same ∙ e)))

pub preview_laws : (b : Board) (m : Message) (spare : Board) → PreviewLaws b m spare
preview_laws b m spare =
    record {
      on_copy = λ z. preview_taken b m spare (refusal_none b m spare z);
      same_answer = λ z. (sent b m spare z).0;
      same_board = λ z. (sent b m spare z).1;
      kept = λ n. ap (λ (o : MessageOutcome). o.board) (preview_kept b m spare _ (sym (preview_code b m spare)) n);
      none_differ = λ n. ap (λ (o : MessageOutcome). o.answer.differ) (preview_kept b m spare _ (sym (preview_code b m spare)) n);
      behind = behind b m spare;
      same_number = λ s. preview_code b m spare ∙ preview_message b m spare.part s ∙ sym (message_code b m);
      short_spare = λ s. preview_code b m spare ∙ preview_short b m spare.part s;
      any_answer = any_answer b m spare;
      any_board = λ other z z'. sym (sent b m spare z).1 ∙ (sent b m other z').1;
    }

-- ---- a query of the spare board

-- each query of the board after a taken message gives the core of its pairs that count, of those present
message_then_query : (b : Board) (m : Message) (α β : ℕ) (marks : List ℕ) → message_refusal b m ≡ 0 → mark_places b.head ≤ length marks → IsCore (board_graph (board_after b m)) (present ((board_after b m).part Presence)) α β (board_query (board_after b m).head ((board_after b m).part Index) ((board_after b m).part Presence) α β marks)
unfolding board_after
message_then_query b m α β marks e long =
    let a = (taken_none b m e).0.table in
    let left : Board = board_after b m in
    let s : Contents = put (contents b) (slot m) (entry m) in
    let more : Parts = λ p. drop (length (words b.head s p)) (b.part p) in
    subst (λ (i : List ℕ). IsCore (board_graph left) (present (left.part Presence)) α β (board_query left.head (i ++ more Index) (left.part Presence) α β marks)) (sym (index_words b.head s more))
    (index_then_query left.head (listed_graph left).cleared (left.part Presence) (more Index) α β marks a.few_operators a.few_rides (omega (arith, length-append (words b.head s Presence) (more Presence), length_words b.head s Presence)) long)

pub preview_then_query : PreviewThenQuery
unfolding copied
preview_then_query b m spare α β marks z long =
    let e = refusal_none b m spare z in
    let c : Board = copied b spare.part in
    subst (λ (o : MessageOutcome). IsCore (board_graph o.board) (present (o.board.part Presence)) α β (board_query o.board.head (o.board.part Index) (o.board.part Presence) α β marks)) (sym (preview_taken b m spare e ∙ message_taken c m (copy_taken b m spare.part e)))
    (message_then_query c m α β marks (copy_taken b m spare.part e) long)
