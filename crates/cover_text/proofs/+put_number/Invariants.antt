-- `cover_text::put_number` ends: the measure is n.
use Rattle.cover_text.proofs.+put_number.Given as goal

abbrev pub decreases-put_number : goal.decreases-put_number
decreases-put_number l = l.n
