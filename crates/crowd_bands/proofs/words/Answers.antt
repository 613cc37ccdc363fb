-- `crowd_bands::words` meets its contract. The loop's invariant: the words of the first i bands are stored.
use mathlib.Core.Path.{◌≡◌, refl, sym, ◌∙◌}
use native.Mathlib.Omega.{arith}
use Rattle.crowd_bands.proofs.Stored.{words_none, put_length, words_more}
use Rattle.crowd_bands.proofs.words.Goals as goal

pub loop-i-init : goal.loop-i-init
loop-i-init c = (refl, words_none _ _)

pub loop-i-preserved : goal.loop-i-preserved
loop-i-preserved c = let l = c.loop-i in
    (put_length l.all l.i _ _ _ _ (omega arith) ∙ l.invariant.0, words_more l.all l.i _ _ _ _ (omega arith) _ l.invariant.1 refl refl refl refl)

pub returns : goal.returns
returns c = let l = c.loop-i in let z : l.i ≡ 8 = omega arith in rw (sym z) l.invariant.1
