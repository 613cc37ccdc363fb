-- `cover_text::put_field` meets its contract.
use Rattle.cover_text.proofs.Write.{wrote_byte, wrote_append}
use Rattle.cover_text.proofs.put_field.Goals as goal

pub returns : goal.returns
returns c =
    let number = c.put_number-end in
    wrote_append number.ensures (wrote_byte number.new.out number.result c.args.after)
