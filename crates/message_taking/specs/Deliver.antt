-- Inner contracts: what `deliver` returns and leaves, as the model's outcome.
use Rattle.std.specs.Prelude.{ℕ, Result, Ok, Err}
use Rattle.model.specs.Layout.{Board}
use Rattle.model.specs.Message.{MessageOutcome}
use Rattle.model.specs.Outcome.{answered}
use Rattle.refusal_kind.specs.declared.Refusal.{Refusal}
use Rattle.refusal_kind.specs.Number.{number}

-- taken, or refused: the answer, and the board at exit
abbrev pub outcome_of : Result ℕ Refusal → Board → MessageOutcome
outcome_of (Ok differ) b = answered (record { code = 0; differ = differ }) b
outcome_of (Err refusal) b = answered (record { code = number refusal; differ = 0 }) b
