-- `pairs::PairTable::find` meets its contract: a pair is listed where it stands at its first place.
use mathlib.Core.Path.{sym, ◌∙◌}
use Rattle.pairs.proofs.Place.{stands_listed}
use Rattle.pairs.proofs.PairTable.find.Goals as goal

pub returns-then-stands_at-clause-listed : goal.returns-then-stands_at-clause-listed
returns-then-stands_at-clause-listed c = let a = c.args in let t = a.self in
    sym c.if-stands_at.true ∙ c.stands_at.ensures ∙ stands_listed t.head t.operators.now t.rides.now t.accepted a.operator a.ride _ c.place_of-place.ensures

pub returns-else-stands_at-clause-listed : goal.returns-else-stands_at-clause-listed
returns-else-stands_at-clause-listed c = let a = c.args in let t = a.self in
    sym c.if-stands_at.false ∙ c.stands_at.ensures ∙ stands_listed t.head t.operators.now t.rides.now t.accepted a.operator a.ride _ c.place_of-place.ensures
