-- `pairs::count_misplaced` meets its contract. The loop's invariant: sum counts those of the first i pairs that are misplaced.
use mathlib.Core.Path.{◌≡◌, ap}
use Prim.Native.Nat.{◌+◌}
use native.Mathlib.Omega.{arith}
use Rattle.model.specs.Count.{bit, count}
use Rattle.model.specs.Refusal.{misplaced}
use Rattle.model.proofs.Count.{count_le}
use Rattle.pairs.proofs.Order.{misplaced_more}
use Rattle.pairs.proofs.count_misplaced.Goals as goal

pub loop-i-init : goal.loop-i-init
unfolding count
loop-i-init c = (omega arith, omega (arith, ap bit c.requires.3))

pub overflow_add-sum : goal.overflow_add-sum
overflow_add-sum c = let l = c.loop-i in
    let a = c.args in
    omega (
      arith,
      l.invariant.1,
      c.misplaced-sum.ensures,
      misplaced_more a.head a.operators.now a.rides.now l.i (omega arith),
      count_le (misplaced a.head a.operators.now a.rides.now) (l.i + 1),
    )

pub loop-i-preserved : goal.loop-i-preserved
loop-i-preserved c = let l = c.loop-i in
    let a = c.args in
    (omega arith, omega (arith, l.invariant.1, c.misplaced-sum.ensures, misplaced_more a.head a.operators.now a.rides.now l.i (omega arith)))

pub returns : goal.returns
returns c = let l = c.loop-i in
    let e : l.i ≡ c.args.head.pairs = omega arith in rw e at l.invariant.1
