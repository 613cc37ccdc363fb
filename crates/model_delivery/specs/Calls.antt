-- Document 01, List of calls: message calls and message-list calls as data, and what they leave of the board.
-- Between calls the board has just the lengths under Layout. Nothing but the calls writes it.
use Rattle.std.specs.Prelude.{List, [], ◌∷◌, ◌++◌, ℕ, zero, suc, length, take}
use Rattle.model.specs.declared.Message.{Message}
use Rattle.model.specs.Layout.{Part, Board, over, exact}
use Rattle.model.specs.Refusal.{list_refusal}
use Rattle.model.specs.Calls.{board_build}
use Rattle.model.specs.Message.{board_message, board_messages}

-- how a part of the board is lent to a call: cut to its first words, or whole with further words behind it
pub data Lent : Type 0 where
  cut : ℕ → Lent
  whole : List ℕ → Lent

-- the part as the call gets it
abbrev pub got : Lent → List ℕ → List ℕ
got (cut n) part = take n part
got (whole more) part = part ++ more

-- how each part is lent; the head has no length
abbrev pub Lending : Type 0
Lending = Part → Lent

-- a message call with its message, or a message-list call with its messages and its answer list
pub data Call : Type 0 where
  message : Lending → Message → Call
  messages : Lending → List Message → List ℕ → Call

-- the messages that stand in a call
abbrev pub sent : Call → List Message
sent (message l m) = m ∷ []
sent (messages l ms answers) = ms

-- the board as a call gets it
abbrev pub lend : Lending → Board → Board
lend l b = record { head = b.head; part = λ p. got (l p) (b.part p) }

-- a part of the board after a call: the words lent, as the call left them, and those not lent
abbrev pub back : List ℕ → List ℕ → List ℕ
back part left = take (length part) (over left part)

-- the board after a call that left the lent board so
abbrev pub take_back : Board → Board → Board
take_back b left = record { head = left.head; part = λ p. back (b.part p) (left.part p) }

-- the board after a call
unfoldable pub after : Board → Call → Board
after b (message l m) = take_back b (board_message (lend l b) m).board
after b (messages l ms answers) = take_back b (board_messages (lend l b) ms answers).board

-- List of calls: the board after all of them
unfoldable pub run : Board → List Call → Board
run b [] = b
run b (c ∷ cs) = run (after b c) cs

-- the board that a build left, to the lengths under Layout
unfoldable pub built_board : Board → ℕ → Board
built_board b start = exact (board_build b start).board

-- the number that a call returns
unfoldable pub returned : Board → Call → ℕ
returned b (message l m) = (board_message (lend l b) m).answer.code
returned b (messages l ms answers) = (board_messages (lend l b) ms answers).code

-- the lowest of 1 to 6 that applies to a call on a board, 0 if none does; a message call has no answer list
unfoldable pub case : Board → Call → ℕ
case b (message l m) = list_refusal (lend l b) 0 []
case b (messages l ms answers) = list_refusal (lend l b) (length ms) answers

-- the messages delivered by a list of calls: those in calls to which none of 1 to 6 applies
unfoldable pub delivered : Board → List Call → List Message
delivered b [] = []
delivered b (c ∷ cs) = elim (case b c) [ zero ↦ sent c | suc k ↦ [] ] ++ delivered (after b c) cs
