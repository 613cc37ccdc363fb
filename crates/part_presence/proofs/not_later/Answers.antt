-- `part_presence::not_later` meets its contract.
use mathlib.Core.Path.{ap, ◌∙◌}
use mathlib.Core.Bool.{not}
use Rattle.model.specs.Layout.{lent}
use Rattle.part_presence.proofs.Presence.{node_refused}
use Rattle.part_presence.proofs.not_later.Goals as goal

pub returns : goal.returns
returns c = let b = c.args.board in
    let later = rw c.place-at.ensures at c.is_later.ensures in
    λ operators rides stamps' revisions' index.
    ap not later ∙ node_refused (lent b.head operators rides stamps' revisions' index b.presence_stamps.now b.presence_revisions.now b.presence.now) c.args.message c.requires.kind
