-- The outcomes of the calls, put together from what a call answers and what is lent at exit.
use Rattle.std.specs.Prelude.{List, ℕ}
use Rattle.model.specs.declared.Counts.{Counts}
use Rattle.model.specs.declared.Peeled.{Peeled}
use Rattle.model.specs.declared.Answer.{Answer}
use Rattle.model.specs.Layout.{Board}
use Rattle.model.specs.Calls.{BuildOutcome, QueryOutcome, PeelOutcome}
use Rattle.model.specs.Message.{MessageOutcome, ListOutcome}

-- Build: its number and the board at exit
abbrev pub build_left : ℕ → Board → BuildOutcome
build_left r b = record { code = r; board = b }

-- Query, and cover for a guest count: its answer and the marks at exit
abbrev pub queried : Counts → List ℕ → QueryOutcome
queried r marks = record { answer = r; marks = marks }

-- Peel: its answer and the marks at exit
abbrev pub peel_left : Peeled → List ℕ → PeelOutcome
peel_left r marks = record { answer = r; marks = marks }

-- Message: its answer and the board at exit; Preview: its answer and the spare board at exit
abbrev pub answered : Answer → Board → MessageOutcome
answered r b = record { answer = r; board = b }

-- Message list: its number, the board and the answer list at exit
abbrev pub listed_out : ℕ → Board → List ℕ → ListOutcome
listed_out r b answers = record { code = r; board = b; answers = answers }
