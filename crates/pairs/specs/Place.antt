-- Inner contracts: the place of a pair among the listed pairs.
use Rattle.std.specs.Prelude.{List, ℕ, ◌+◌, ◌*◌, ◌≤◌, ◌<◌, get_or}
use Rattle.model.specs.declared.Head.{Head}

-- p is the first place whose pair is not before (u, v): pairs are in order as their numbers operator × rides + ride are
pub record FirstPlace (h : Head) (operators rides : List ℕ) (u v p : ℕ) : Type 0 where
  pub within : p ≤ h.pairs
  pub before : (i : ℕ) → i < p → get_or operators i 0 * h.rides + get_or rides i 0 < u * h.rides + v
  pub behind : (i : ℕ) → p ≤ i → i < h.pairs → u * h.rides + v ≤ get_or operators i 0 * h.rides + get_or rides i 0
