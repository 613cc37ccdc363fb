-- `cover_input::copy_words` meets its contract. The invariant: the first i words are stored.
use mathlib.Core.Path.{◌≡◌}
use mathlib.Core.List.{◌++◌}
use lib.ListN.{length, take, drop}
use Rattle.cover_input.specs.Input.{words_from}
use Rattle.cover_input.proofs.copy_words.Given as goal

abbrev pub invariant-loop-i : goal.invariant-loop-i
invariant-loop-i l = (length l.to ≡ length l.initial.to) × (l.to ≡ take l.i (words_from l.input l.start l.n) ++ drop l.i l.initial.to)
