-- `pairs_change::clear_tails` meets its contract.
use Rattle.pairs_change.proofs.Tails.{tails_fit, tails_zeroed}
use Rattle.pairs_change.proofs.clear_tails.Goals as goal

pub fill-requires : goal.fill-requires
fill-requires c = (tails_fit c.args.head c.args.operators.now c.args.rides.now c.requires.0, c.requires.1)

pub fill-requires-2 : goal.fill-requires-2
fill-requires-2 c = (tails_fit c.args.head c.args.operators.now c.args.rides.now c.requires.0, c.requires.2)

pub returns : goal.returns
returns c = let a = c.args in
    tails_zeroed a.head a.operators.now a.rides.now c.requires.0 _ _ c.fill.ensures c.fill-2.ensures
