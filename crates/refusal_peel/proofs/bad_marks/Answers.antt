-- `refusal_peel::bad_marks` meets its contract. The loop's invariant: the first i marks are 0 or 1.
use native.Mathlib.Omega.{arith}
use borrow.Author.Count.{below_more}
use Rattle.refusal_peel.proofs.Chain.{bad_mark, good_marks}
use Rattle.refusal_peel.proofs.bad_marks.Goals as goal

pub loop-i-init : goal.loop-i-init
loop-i-init c = λ k l. absurd (let z : ⊥ = omega arith in z)

pub returns-then-marks-i-gt1 : goal.returns-then-marks-i-gt1
returns-then-marks-i-gt1 c = let a = c.args in bad_mark a.head a.marks.now c.loop-i.i (omega arith) (omega arith)

pub loop-i-preserved : goal.loop-i-preserved
loop-i-preserved c = let l = c.loop-i in below_more _ _ l.invariant (omega arith)

pub returns : goal.returns
returns c = let a = c.args in good_marks a.head a.marks.now (λ i h. c.loop-i.invariant i (omega arith))
