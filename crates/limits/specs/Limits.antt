-- Inner contracts: a list of limits, one word for each node, as marks lie, and the limits of those marked in bytes.
use Rattle.std.specs.Prelude.{true, false, List, ℕ, ◌≤◌, min, length, get_or}
use Rattle.model.specs.declared.Head.{Head}
use Rattle.model.specs.Graph.{marked}
use Rattle.model.specs.Layout.{mark_places}
use Rattle.limits.specs.declared.Asked.{Asked}

-- the limit of node x
abbrev pub limit_of : List ℕ → ℕ → ℕ
limit_of l x = get_or l x 0

-- what is asked has a presence word for each node, and a minimum for each ride
pub record LongEnough (h : Head) (asked : Asked) : Type 0 where
  pub presence : mark_places h ≤ length asked.presence.now
  pub minimums : h.rides ≤ length asked.minimums.now

-- the limit of node x in a byte: 0 where it isn't marked, so that no degree is below it; 255 where it is higher, since no degree is above 200
unfoldable pub byte_limit : (ℕ → ℕ) → List ℕ → ℕ → ℕ
byte_limit limit marks x = elim (marked marks x) [ true ↦ min (limit x) 255 | false ↦ 0 ]
