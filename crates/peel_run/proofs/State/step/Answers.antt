-- `peel_run::State::step` meets its contract.
use borrow.Author.Rules.{rules}
use mathlib.Core.Path.{refl}
use Rattle.peel_run.proofs.Steps.{next_looked, stepped}
use Rattle.peel_run.proofs.State.step.Goals as goal

pub lowest_short-next-requires : goal.lowest_short-next-requires
lowest_short-next-requires c = let p = c.requires.0 in
    next_looked p.0 p.1 _ _ _ _ p.2 c.requires.1 _ c.look_from-from.ensures

pub returns : goal.returns
returns c = λ g limit o. stepped g limit _ _ _ _ o c.requires.1 _ refl refl refl refl (search rules)
