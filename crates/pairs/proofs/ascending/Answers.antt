-- `pairs::ascending` meets its contract.
use mathlib.Core.Path.{◌∙◌}
use native.Mathlib.Omega.{arith}
use borrow.Author.Tests.{le-leb, lt-leb}
use lib.ListN.{get_or}
use Rattle.model.specs.Count.{some, count}
use Rattle.model.specs.Refusal.{refused_5}
use Rattle.pairs.proofs.Order.{first_place, first_misplaced, none_misplaced}
use Rattle.pairs.proofs.ascending.Goals as goal

pub returns-then-head-eq0 : goal.returns-then-head-eq0
unfolding refused_5 some count
returns-then-head-eq0 c = rw c.if-head-eq0.true

pub returns-then-head-operators : goal.returns-then-head-operators
returns-then-head-operators c = let a = c.args in
    first_misplaced a.head a.operators.now a.rides.now (omega arith) (rw (le-leb a.head.operators (get_or a.operators.now 0 0) (omega arith)))

pub returns-then-head-rides : goal.returns-then-head-rides
returns-then-head-rides c = let a = c.args in
    first_misplaced a.head a.operators.now a.rides.now (omega arith)
    (rw (lt-leb a.head.operators (get_or a.operators.now 0 0) (omega arith), le-leb a.head.rides (get_or a.rides.now 0 0) (omega arith)))

pub count_misplaced-requires : goal.count_misplaced-requires
count_misplaced-requires c = let a = c.args in (
  omega arith,
  omega arith,
  omega arith,
  first_place a.head a.operators.now a.rides.now ∙
      rw (lt-leb a.head.operators (get_or a.operators.now 0 0) (omega arith), lt-leb a.head.rides (get_or a.rides.now 0 0) (omega arith)),
)

pub returns : goal.returns
returns c = let a = c.args in
    rw c.count_misplaced.ensures (none_misplaced a.head a.operators.now a.rides.now)
