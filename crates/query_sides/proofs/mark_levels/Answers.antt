-- `query_sides::mark_levels` meets its contract: everybody has level 0, and the others are marked by their levels.
use mathlib.Core.Path.{sym}
use Rattle.query_sides.proofs.mark_levels.Goals as goal

pub returns-then-least-eq0 : goal.returns-then-least-eq0
returns-then-least-eq0 c = rw c.if-least-eq0.true (c.mark_present.ensures _ (sym c.requires.1))
