-- Inner contracts: what the controller is told of a query, a cover or a peel, which may be refused.
use Rattle.std.specs.Prelude.{Result, Ok, Err}
use Rattle.model.specs.declared.Counts.{Counts}
use Rattle.model.specs.declared.Peeled.{Peeled}
use Rattle.refusal_kind.specs.declared.Refusal.{Refusal}
use Rattle.refusal_kind.specs.Number.{number}

-- the counts, or the number of the refusal
abbrev pub counts_of : Result Counts Refusal → Counts
counts_of (Ok counts) = counts
counts_of (Err refusal) = record { code = number refusal; operators = 0; rides = 0 }

-- what a peel left, or the number of the refusal
abbrev pub peeled_of : Result Peeled Refusal → Peeled
peeled_of (Ok peeled) = peeled
peeled_of (Err refusal) = record { code = number refusal; settled = 0; steps = 0 }
