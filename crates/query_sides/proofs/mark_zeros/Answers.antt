-- `query_sides::mark_zeros` meets its contract: where `least` is 0 those present are marked, and else nobody.
use Rattle.std.proofs.Common.{arith, rules, ◌≡◌, ℕ, ◌<◌, get_or, length}
use Rattle.std.proofs.lemmas.List.{length-replicate}
use Rattle.query_sides.proofs.Marked.{none_marked}
use Rattle.query_sides.proofs.mark_zeros.Goals as goal

pub returns-then-least-eq0 : goal.returns-then-least-eq0
returns-then-least-eq0 c = rw c.if-least-eq0.true (c.mark_present.ensures _ (length-replicate {A = ℕ} _ 0))

pub returns : goal.returns
returns c =
    let none : (i : ℕ) → i < length c.args.marks.now → get_or c.fill.new.self i 0 ≡ 0 = search rules in
    none_marked c.args.presence.now _ c.args.least (omega arith) (λ i h. none i (omega (arith, c.requires)))
