-- `query_sides::mark_present` meets its contract: the test is always met.
use Rattle.std.proofs.Common.{arith, rules, sym, ap, true, Bool, ◌&&◌, get_or}
use borrow.Author.Tests.{le-leb}
use Rattle.model.specs.Graph.{present}
use Rattle.query_sides.proofs.Marked.{upto_marked}
use Rattle.query_sides.proofs.mark_present.Goals as goal

pub returns : goal.returns
returns c = let p = c.args.presence.now in
    λ levels same.
    upto_marked levels p 0 _ _ _ _ (omega (arith, same)) (λ k h. ap (λ (z : Bool). present p k && z) (sym (le-leb 0 (get_or levels k 0) (omega arith)))) (c.mark_those.ensures (λ k. true) (λ k h b e. search rules))
