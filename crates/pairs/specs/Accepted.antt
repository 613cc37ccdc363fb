-- Inner contracts: the pair arrays as document 01's numbers 1, 2, 3 and 5 want them.
use Rattle.std.specs.Prelude.{List, ℕ, ◌≤◌, ◌<◌, T, length, get_or}
use Rattle.model.specs.declared.Head.{Head}
use Rattle.model.specs.Refusal.{refused_5}

-- every listed pair is in range: its row below a, its column below w
abbrev pub InRange : ℕ → ℕ → ℕ → List ℕ → List ℕ → Type 0
InRange pairs a w rows columns = (i : ℕ) → i < pairs → (get_or rows i 0 < a) × (get_or columns i 0 < w)

-- the listed pairs of a pair table are in bounds: sizes as 1 and 2 want them, arrays long enough, and in order as 5 wants them
pub record AcceptedPairs (h : Head) (operators rides : List ℕ) : Type 0 where
  pub few_operators : h.operators ≤ 200
  pub few_rides : h.rides ≤ 60
  pub operators_long : h.pairs ≤ length operators
  pub rides_long : h.pairs ≤ length rides
  pub ordered : T (refused_5 h operators rides) → ⊥
