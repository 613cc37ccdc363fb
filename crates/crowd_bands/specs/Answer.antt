-- Inner contracts: what a look-up answers, by what it finds.
use Rattle.std.specs.Prelude.{Result, Ok, Err}
use Rattle.model.specs.declared.CrowdLimits.{CrowdLimits}
use Rattle.refusal_kind.specs.declared.Refusal.{Refusal}
use Rattle.refusal_kind.specs.Number.{number}
use Rattle.crowd_bands.specs.declared.Limits.{Limits}

-- the limits that are found, or the number of a table that is refused
abbrev pub crowd_answer : Result Limits Refusal → CrowdLimits
crowd_answer (Ok limits) = record { code = 0; alpha = limits.alpha; beta = limits.beta }
crowd_answer (Err refusal) = record { code = number refusal; alpha = 0; beta = 0 }
