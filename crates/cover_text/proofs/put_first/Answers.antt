-- `cover_text::put_first` meets its contract.
use Rattle.cover_text.specs.Text.{first_line}
use Rattle.cover_text.proofs.Write.{wrote_append}
use Rattle.cover_text.proofs.put_first.Goals as goal

pub returns : goal.returns
unfolding first_line
returns c =
    wrote_append
    (wrote_append
    (wrote_append
    (wrote_append c.put_bytes-named.ensures c.put_field-first.ensures)
    c.put_field-second.ensures)
    c.put_field-third.ensures)
    c.put_field.ensures
