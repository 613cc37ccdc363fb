-- `graph_degrees::so_far` meets its contract.
use mathlib.Core.Path.{sym, ap, ◌∙◌}
use Prim.Native.Nat.{ℕ}
use lib.ListN.{get_or}
use Rattle.graph_degrees.proofs.so_far.Goals as goal

pub returns-then-u-last : goal.returns-then-u-last
returns-then-u-last c = c.requires.1 ∙ ap (λ (x : ℕ). get_or c.args.degrees.now x 0) (sym c.if-u-last.true)
