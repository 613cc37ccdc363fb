-- `peel_run::run` meets its contract. The loop's invariant: the steps taken and the peel from here on make up the peel.
use mathlib.Core.Path.{refl}
use native.Mathlib.Omega.{arith}
use Rattle.peel_run.proofs.Running.{next_is, next_row, lowered, running_start, running_step, running_settled, running_spent}
use Rattle.peel_run.proofs.run.Goals as goal

pub loop-init : goal.loop-init
loop-init c = (c.requires.1, λ g limit t o. running_start g limit _ _ _ _ o c.requires.1)

pub subtract_row-requires : goal.subtract_row-requires
subtract_row-requires c = let l = c.loop in
    let p = c.requires.0 in
    let w = (l.invariant.1 p.0 p.1 p.2 p.3).state in
    let sizes = p.3.held.remaining in
    let row = next_row p.0 p.1 _ _ _ w _ c.in-Some.is _ _ sizes.operators_are sizes.rides_are in
    ((p.0, l.marks, p.2, row.0, row.1), omega (arith, next_is p.0 p.1 _ _ _ w _ c.in-Some.is, sizes.operators_are, sizes.rides_are))

pub step-state-requires : goal.step-state-requires
step-state-requires c = let l = c.loop in
    let p = c.requires.0 in
    let w = (l.invariant.1 p.0 p.1 p.2 p.3).state in
    let sizes = p.3.held.remaining in
    let row = next_row p.0 p.1 _ _ _ w _ c.in-Some.is _ _ sizes.operators_are sizes.rides_are in
    let left = lowered p.0 p.1 _ _ p.2 l.state _ _ w _ c.in-Some.is _ _ _ (c.subtract_row.ensures p.0 l.marks p.2 row.0 row.1) in
    let own = w.held.remaining in
    ((p.0, p.1, left), omega (arith, next_is p.0 p.1 _ _ _ w _ c.in-Some.is, own.operators_are, own.rides_are), omega (arith, l.invariant.0, c.loop-test.true, c.ranges.allowed))

pub loop-preserved : goal.loop-preserved
loop-preserved c = let l = c.loop in
    let p = c.requires.0 in
    let own = (l.invariant.1 p.0 p.1 p.2 p.3).state in
    let sizes = p.3.held.remaining in
    let row = next_row p.0 p.1 _ _ _ own _ c.in-Some.is _ _ sizes.operators_are sizes.rides_are in
    let left = lowered p.0 p.1 _ _ p.2 l.state _ _ own _ c.in-Some.is _ _ _ (c.subtract_row.ensures p.0 l.marks p.2 row.0 row.1) in (
      omega (arith, l.invariant.0, (c.step-state.ensures p.0 p.1 left).steps),
      λ g limit t o.
          let w = l.invariant.1 g limit t o in
          let sizes = o.held.remaining in
          let row = next_row g limit _ _ _ w.state _ c.in-Some.is _ _ sizes.operators_are sizes.rides_are in
          let left = lowered g limit _ _ t l.state _ _ w.state _ c.in-Some.is _ _ _ (c.subtract_row.ensures g l.marks t row.0 row.1) in
          running_step g limit _ _ l.state _ _ _ _ _ _ _ w (omega (arith, l.invariant.0, c.loop-test.true)) c.in-Some.is refl (c.step-state.ensures g limit left),
    )

pub returns-in_default : goal.returns-in_default
returns-in_default c = λ g limit t o. let l = c.loop in running_settled g limit _ _ _ _ _ (l.invariant.1 g limit t o) c.in_default.is

pub returns-after-loop : goal.returns-after-loop
returns-after-loop c = λ g limit t o. let l = c.loop in running_spent g limit _ _ _ _ _ (l.invariant.1 g limit t o) (omega (arith, l.invariant.0))
