-- Demand 3, as statements: proofs/ proves each of them.
use Rattle.std.specs.Prelude.{◌≡◌, ◌↔◌, true, false, ℕ, T, length, take}
use mathlib.Core.List.{List, [], ◌∷◌, ◌++◌, Memᴰ}
use Rattle.std.proofs.Math.Option.{none, some}
use Rattle.model.specs.declared.Head.{Head}
use Rattle.model.specs.declared.Message.{Message}
use Rattle.model.specs.Graph.{row}
use Rattle.model.specs.Layout.{Operators, Rides, Board, lent, over, exact, board_graph}
use Rattle.model.specs.Contents.{Slot, later, slot, entry}
use Rattle.model.specs.Refusal.{build_refusal, message_refusal, list_refusal}
use Rattle.model.specs.Calls.{board_build}
use Rattle.model.specs.Message.{board_message, board_preview, board_messages}
use Rattle.model.specs.OneOperator.{OneMove}
use Rattle.model_delivery.specs.Calls.{Call, run, built_board, returned, case, delivered}
use Rattle.model_delivery.specs.Book.{too_short, valid, book, latest, written}

-- Demand 3, of the whole list: for a pair table that is accepted (1 to 5 don't apply to its build), a starting stamp from 1 (nor 9),
-- lent with any further words, and for any list of calls, the board is the one worked out from the book
abbrev pub BoardIsBook : Type 0
BoardIsBook =
    (b : Board) (start : ℕ) (calls : List Call) →
    build_refusal b start ≡ 0 →
    run (built_board b start) calls ≡ written b.head (book b.head (b.part Operators) (b.part Rides) start calls)

-- of 1 to 6 only 3 arises in the calls of a list, exactly where a length is too short, and such a call returns it
pub record OnlyThree : Type 0 where
  pub case_three : (b : Board) (start : ℕ) (calls : List Call) (c : Call) → build_refusal b start ≡ 0 →
      case (run (built_board b start) calls) c ≡ elim (too_short b.head c) [ true ↦ 3 | false ↦ 0 ]
  pub returns_three : (b : Board) (start : ℕ) (calls : List Call) (c : Call) → build_refusal b start ≡ 0 → T (too_short b.head c) →
      returned (run (built_board b start) calls) c ≡ 3

-- e is a latest entry for a slot: one that no entry for it is later than
pub record Latest (es : List Message) (t : Slot) (e : Message) : Type 0 where
  pub member : Memᴰ e es
  pub about : slot e ≡ t
  pub last : (f : Message) → Memᴰ f es → slot f ≡ t → T (later (entry f) (entry e)) → ⊥

-- the book's latest entry is one, where there is none the slot has no entry, and valid entries leave no choice of kind, stamp and revision
pub record LatestLaws : Type 0 where
  pub found : (es : List Message) (t : Slot) (e : Message) → latest es t ≡ some e → Latest es t e
  pub missing : (es : List Message) (t : Slot) → latest es t ≡ none → (e : Message) → Memᴰ e es → slot e ≡ t → ⊥
  pub only : (h : Head) (es : List Message) (t : Slot) (e f : Message) → ((m : Message) → Memᴰ m es → T (valid h m)) → Latest es t e → Latest es t f →
      (e.kind ≡ f.kind) × (e.stamp ≡ f.stamp) × (e.revision ≡ f.revision)

-- every entry of a book is valid
abbrev pub BookValid : Type 0
BookValid =
    (b : Board) (start : ℕ) (calls : List Call) →
    build_refusal b start ≡ 0 →
    (e : Message) → Memᴰ e (book b.head (b.part Operators) (b.part Rides) start calls) → T (valid b.head e)

-- two boards as lent to a build have the same pair table
pub record SameTable (b b' : Board) : Type 0 where
  pub head : b.head ≡ b'.head
  pub operators : take b.head.pairs (b.part Operators) ≡ take b.head.pairs (b'.part Operators)
  pub rides : take b.head.pairs (b.part Rides) ≡ take b.head.pairs (b'.part Rides)

-- two lists alike in pair table, starting stamp and the set of valid messages delivered leave the same board,
-- in whatever order, however often and however cut into calls these come
abbrev pub AnyOrder : Type 0
AnyOrder =
    (b b' : Board) (start : ℕ) (calls calls' : List Call) →
    build_refusal b start ≡ 0 →
    build_refusal b' start ≡ 0 →
    SameTable b b' →
    ((m : Message) → T (valid b.head m) → Memᴰ m (delivered (built_board b start) calls) ↔ Memᴰ m (delivered (built_board b' start) calls')) →
    run (built_board b start) calls ≡ run (built_board b' start) calls'

-- two operators cleared for one ride, built at stamp 1 over words of no meaning
abbrev pub two_on_one : Board
two_on_one =
    let words : List ℕ = 9 ∷ 9 ∷ 9 ∷ [] in
    let table = lent (record { operators = 2; rides = 1; pairs = 2 }) (0 ∷ 1 ∷ []) (0 ∷ 0 ∷ []) words words words words words words in
    (board_build table 1).board

-- the ride goes out of service
abbrev pub ride_gone : Message
ride_gone = record { kind = 6; operator = 0; ride = 0; revision = 0; stamp = 2 }

-- Demand 3, its last sentence: on any board where a message is taken, how levels by the definition move, of the pairs that count
pub record OneMessage : Type 0 where
  -- up for a grant, which adds its pair where needed, and for an operator coming on
  pub grant : (b : Board) (m : Message) → message_refusal b m ≡ 0 → m.kind ≡ 1 →
      OneMove (board_graph b) (board_graph (board_message b m).board) m.operator
  pub operator_on : (b : Board) (m : Message) → message_refusal b m ≡ 0 → m.kind ≡ 3 →
      OneMove (board_graph b) (board_graph (board_message b m).board) m.operator
  -- down for a withdrawal, which removes it where needed, and for an operator going off
  pub withdrawal : (b : Board) (m : Message) → message_refusal b m ≡ 0 → m.kind ≡ 2 →
      OneMove (board_graph (board_message b m).board) (board_graph b) m.operator
  pub operator_off : (b : Board) (m : Message) → message_refusal b m ≡ 0 → m.kind ≡ 4 →
      OneMove (board_graph (board_message b m).board) (board_graph b) m.operator
  -- for a ride levels may move further: two operators are cleared for one ride, and its going takes both from level 2 to level 0 in row 1
  pub ride_out : message_refusal two_on_one ride_gone ≡ 0
  pub ride_before : row (board_graph two_on_one) 1 ≡ 2 ∷ 2 ∷ 2 ∷ []
  pub ride_after : row (board_graph (board_message two_on_one ride_gone).board) 1 ≡ 0 ∷ 0 ∷ 0 ∷ []

-- the board after messages sent one after another by message calls
unfoldable pub board_by_calls : Board → List Message → Board
board_by_calls b [] = b
board_by_calls b (m ∷ ms) = board_by_calls (board_message b m).board ms

-- and their answer numbers
unfoldable pub numbers_by_calls : Board → List Message → List ℕ
numbers_by_calls b [] = []
numbers_by_calls b (m ∷ ms) = (board_message b m).answer.code ∷ numbers_by_calls (board_message b m).board ms

-- Message list, on any board: one that isn't refused ends as its messages sent by message calls, and so does each first part of it
pub record ListIsCalls : Type 0 where
  pub first_part : (b : Board) (ms rest : List Message) (answers : List ℕ) → list_refusal b (length (ms ++ rest)) answers ≡ 0 →
      board_messages b ms answers ≡ record { code = 0; board = board_by_calls b ms; answers = over (numbers_by_calls b ms) answers }
  pub all : (b : Board) (ms : List Message) (answers : List ℕ) → list_refusal b (length ms) answers ≡ 0 →
      board_messages b ms answers ≡ record { code = 0; board = board_by_calls b ms; answers = over (numbers_by_calls b ms) answers }
  -- 1 to 6 don't apply after any of its messages
  pub keeps : (b : Board) (m : Message) (messages : ℕ) (answers : List ℕ) → list_refusal b messages answers ≡ 0 →
      list_refusal (board_message b m).board messages answers ≡ 0

-- Document 02, 2.2, after any list of calls: a preview that isn't refused leaves in the spare memory, to the lengths under Layout,
-- the board worked out from the book with the message entered
abbrev pub CallsThenPreview : Type 0
CallsThenPreview =
    (b : Board) (start : ℕ) (calls : List Call) (m : Message) (spare : Board) →
    build_refusal b start ≡ 0 →
    let preview = board_preview (run (built_board b start) calls) m spare in
    preview.answer.code ≡ 0 →
    exact preview.board ≡ written b.head (book b.head (b.part Operators) (b.part Rides) start calls ++ (m ∷ []))

-- Demand 3, all of it
pub record Demand3 : Type 0 where
  pub board_is_book : BoardIsBook
  pub only_three : OnlyThree
  pub latest_laws : LatestLaws
  pub book_valid : BookValid
  pub any_order : AnyOrder
  pub one_message : OneMessage
  pub list_is_calls : ListIsCalls
