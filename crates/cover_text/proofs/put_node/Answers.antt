-- `cover_text::put_node` meets its contract.
use native.Mathlib.Omega.{arith}
use Rattle.cover_text.specs.Text.{node_line}
use Rattle.cover_text.proofs.Write.{wrote_append, wrote_most}
use Rattle.cover_text.proofs.put_node.Goals as goal

pub returns : goal.returns
unfolding node_line
returns c =
    wrote_most 21 (omega arith)
    (wrote_append (wrote_append c.put_bytes-named.ensures c.put_field-numbered.ensures) c.put_field.ensures)
