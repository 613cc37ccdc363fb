-- `peel_pairs::peel_tables` meets its contract.
use borrow.Author.Rules.{rules}
use mathlib.Core.Path.{◌≡◌, ap, ◌∙◌}
use lib.ListN.{length}
use Rattle.model.specs.Count.{bit}
use Rattle.peel_pairs.proofs.Whole.{first_state, peel_gives}
use Rattle.peel_pairs.proofs.peel_tables.Goals as goal

pub run-last-requires : goal.run-last-requires
run-last-requires c = let p = c.requires.0 in
    let o = p.1 in
    ((p.0, _, p.2, first_state p.0 _ _ _ _ o _ _ p.2 _ _ _ (let q : length c.joined-all.result ≡ 260 = search rules in q) (c.joined-all.ensures p.0 o.operators o.rides o.degrees) (let q : length c.bytes-bytes.result ≡ 260 = search rules in q) c.bytes-bytes.ensures _ c.start-first.ensures), c.start-first.ensures.steps)

pub returns : goal.returns
returns c =
    λ g o t.
    let w = c.run-last.ensures g _ t (first_state g _ _ _ _ o _ _ t _ _ _ (let q : length c.joined-all.result ≡ 260 = search rules in q) (c.joined-all.ensures g o.operators o.rides o.degrees) (let q : length c.bytes-bytes.result ≡ 260 = search rules in q) c.bytes-bytes.ensures _ c.start-first.ensures) in
    peel_gives g _ _ _ _ _ _ w _ (c.from.ensures ∙ ap bit (c.is_settled.ensures g _ _ _ w.state))
