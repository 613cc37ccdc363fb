-- `part_stamps::not_later` meets its contract: where a message is later than the pair's last whether that gives or not, or in neither case, the pair isn't
-- looked up.
use mathlib.Core.Path.{ap, sym, ◌∙◌}
use mathlib.Core.Bool.{not}
use Rattle.model.specs.Layout.{lent, listed_graph}
use Rattle.part_stamps.proofs.Tests.{never_later, ever_later, later_if, pair_refused}
use Rattle.part_stamps.proofs.not_later.Goals as goal

pub returns-then-not-is_later : goal.returns-then-not-is_later
returns-then-not-is_later c = let a = c.args in
    let k = rw c.place-at.ensures at c.is_later.ensures in
    λ index stamps' revisions' presence.
    let b = lent a.table.head a.table.operators.now a.table.rides.now a.stamps.now a.revisions.now index stamps' revisions' presence in
    sym (ap not (never_later a.message _ _ (sym k ∙ c.if-not-is_later.true) ((listed_graph b).cleared a.message.operator a.message.ride))) ∙ pair_refused b a.message c.requires.4

pub returns-then-is_later : goal.returns-then-is_later
returns-then-is_later c = let a = c.args in
    let k = rw c.place-at.ensures at c.is_later-2.ensures in
    λ index stamps' revisions' presence.
    let b = lent a.table.head a.table.operators.now a.table.rides.now a.stamps.now a.revisions.now index stamps' revisions' presence in
    sym (ap not (ever_later a.message _ _ (sym k ∙ c.if-is_later.true) ((listed_graph b).cleared a.message.operator a.message.ride))) ∙ pair_refused b a.message c.requires.4

pub returns : goal.returns
returns c = let a = c.args in
    let e = c.place-at.ensures in
    let k = rw e at c.is_later.ensures in
    let l = rw e at c.is_later-2.ensures in
    λ index stamps' revisions' presence.
    let b = lent a.table.head a.table.operators.now a.table.rides.now a.stamps.now a.revisions.now index stamps' revisions' presence in
    ap not (c.is_listed.ensures ∙ sym (later_if a.message _ _ (sym k ∙ c.if-not-is_later.false) (sym l ∙ c.if-is_later.false) ((listed_graph b).cleared a.message.operator a.message.ride))) ∙ pair_refused b a.message c.requires.4
