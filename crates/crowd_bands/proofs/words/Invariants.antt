-- `crowd_bands::words` meets its contract. The loop's invariant: the words of the first i bands are stored.
use mathlib.Core.Path.{◌≡◌}
use lib.ListN.{length}
use Rattle.crowd_bands.specs.Words.{WordsUpTo}
use Rattle.crowd_bands.proofs.words.Given as goal

abbrev pub invariant-loop-i : goal.invariant-loop-i
invariant-loop-i l = (length l.all ≡ 32) × WordsUpTo l.i l.bands l.all
