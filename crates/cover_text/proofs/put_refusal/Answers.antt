-- `cover_text::put_refusal` meets its contract.
use Rattle.cover_text.specs.Text.{refusal_line}
use Rattle.cover_text.proofs.Write.{wrote_append}
use Rattle.cover_text.proofs.put_refusal.Goals as goal

pub returns : goal.returns
unfolding refusal_line
returns c =
    rw (← c.number.ensures)
    (wrote_append c.put_bytes-named.ensures c.put_field.ensures)
