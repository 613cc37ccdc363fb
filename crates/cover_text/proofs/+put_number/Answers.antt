-- `cover_text::put_number` meets its contract: the digits are those of n / 10, and the last one.
use mathlib.Core.Path.{sym}
use native.Mathlib.Omega.{arith}
use Prim.Native.Nat.{◌/◌}
use Rattle.cover_text.specs.Text.{digit}
use Rattle.cover_text.proofs.Decimal.{decimal_one, decimal_more, decimal_length}
use Rattle.cover_text.proofs.Write.{wrote_byte, wrote_append, wrote_text, wrote_length}
use Rattle.cover_text.proofs.+put_number.Goals as goal

pub returns-then-n-lt10 : goal.returns-then-n-lt10
returns-then-n-lt10 t c =
    let a = c.args in
    wrote_length 5 (decimal_length 4 a.n (omega arith)) (wrote_text (sym (decimal_one a.n c.if-n-lt10.true)) (wrote_byte a.out.now a.at (digit a.n)))

pub bounds-out-last : goal.bounds-out-last
bounds-out-last t c = omega (arith, decimal_length 3 (c.args.n / 10) (omega arith))

pub returns : goal.returns
returns t c =
    let a = c.args in
    let p = c.put_number-last in
    wrote_length 5 (decimal_length 4 a.n (omega arith))
    (wrote_text (sym (decimal_more a.n c.if-n-lt10.false)) (wrote_append p.ensures (wrote_byte p.new.out p.result (digit a.n))))
