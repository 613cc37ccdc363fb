-- `graph_degrees::bytes_of` meets its contract. The loop's invariant: the first x bytes are written.
use mathlib.Core.Path.{◌≡◌, ◌∙◌}
use native.Mathlib.Omega.{arith}
use native.Mathlib.Decide.{dec_lt}
use lib.ListN.{length-set}
use lib.Seq.{get_or-set_same, get_or-set_other}
use Rattle.graph_degrees.proofs.bytes_of.Goals as goal

pub loop-x-preserved : goal.loop-x-preserved
loop-x-preserved g c = let l = c.loop-x in (
  simp length-set l.invariant.0,
  λ k h. elim (dec_lt k l.x) [
    | yes d ↦ (let w = l.invariant.1 k d in (w.0, w.1, get_or-set_other l.here l.x k c.from.result 0 (omega arith) ∙ w.2))
    | no d ↦ (let e : k ≡ l.x = omega arith in rw e (c.is_here.result, c.is_here.ensures, get_or-set_same l.here l.x c.from.result 0 (omega arith) ∙ c.from.ensures))
  ],
)

pub returns : goal.returns
returns g c = λ k h. c.loop-x.invariant.1 k (omega arith)
