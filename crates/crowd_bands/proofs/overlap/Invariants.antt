-- `crowd_bands::overlap` meets its contract. The loop's invariant: none of the first i bands shares a guest count with one before it.
use Rattle.crowd_bands.specs.Bands.{shares_earlier}
use Rattle.model.proofs.Search.{NoneBefore}
use Rattle.crowd_bands.proofs.overlap.Given as goal

abbrev pub invariant-loop-i : goal.invariant-loop-i
invariant-loop-i l = NoneBefore (shares_earlier l.bands) l.i
