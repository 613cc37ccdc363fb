-- `graph_drops::look_from` meets its contract.
use mathlib.Core.Path.{sym, ◌∙◌}
use native.Mathlib.Omega.{arith}
use Rattle.graph_drops.proofs.Lacking.{looked_operator, looked_none, looked_some}
use Rattle.graph_drops.proofs.look_from.Goals as goal

pub returns-then-x-operators : goal.returns-then-x-operators
returns-then-x-operators c = sym (looked_operator _ _ _ _ c.if-x-operators.true)

pub returns-then-count_short-ne0 : goal.returns-then-count_short-ne0
returns-then-count_short-ne0 c = sym (looked_some _ _ _ _ (omega arith) (λ e. c.if-count_short-ne0.true (c.count_short.ensures ∙ e)))

pub returns : goal.returns
returns c = sym (looked_none _ _ _ _ (sym c.count_short.ensures ∙ c.if-count_short-ne0.false))
