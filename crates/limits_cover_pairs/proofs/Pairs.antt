-- The pairs whose nodes are both here, read once, are what a cover is found over.
use mathlib.Core.Path.{refl}
use mathlib.Core.Bool.{Bool}
use mathlib.Core.List.{List}
use Prim.Native.Nat.{ℕ}
use Rattle.model.specs.declared.Head.{Head}
use Rattle.graph_degrees.specs.Degrees.{ReadUpTo, first_pairs}
use Rattle.limits_cover.specs.Cover.{Over}

pub read_over : (h : Head) (operators rides : List ℕ) (here : ℕ → Bool) (rows columns d d' : List ℕ) → ReadUpTo h.pairs h operators rides here rows columns d d' → Over (first_pairs h operators rides here h.pairs) h rows columns d d'
read_over h operators rides here rows columns d d' r = record { operators = refl; rides = refl; tables = r.tables; degrees = r.degrees }
