-- `query_sides::mark_those` meets its contract. The loop's invariant: the marks below i are set and counted.
use Rattle.std.proofs.Common.{arith, ◌≡◌, ap, subst, ◌∙◌, Bool, ◌&&◌, ℕ, length}
use Rattle.model.specs.Count.{bit}
use Rattle.model.specs.Graph.{present}
use Rattle.model.proofs.Count.{bit_le}
use Rattle.query_sides.specs.Marked.{Upto}
use Rattle.query_sides.proofs.Marked.{upto_none, upto_more}
use Rattle.query_sides.proofs.mark_those.Goals as goal

pub loop-i-init : goal.loop-i-init
loop-i-init g c = (omega arith, λ test same. upto_none _ _)

pub loop-i-preserved : goal.loop-i-preserved
loop-i-preserved g c = let l = c.loop-i in
    let p = c.args.presence.now in (
      omega (arith, l.invariant.0, c.mark-m.ensures, bit_le (present p l.i && c.is_in.result)),
      λ test same. upto_more _ _ _ _ _ (l.invariant.1 test same) (c.mark-m.ensures ∙ ap (λ (z : Bool). bit (present p l.i && z)) (same l.i (omega (arith, c.requires.size)) c.is_in.result c.is_in.ensures)) (omega arith),
    )

pub returns : goal.returns
returns g c = let l = c.loop-i in
    λ test same. subst (λ (k : ℕ). Upto (λ i. present c.args.presence.now i && test i) k l.count l.marks) (let e : l.i ≡ length c.args.presence.now = omega (arith, c.requires.size) in e) (l.invariant.1 test same)
