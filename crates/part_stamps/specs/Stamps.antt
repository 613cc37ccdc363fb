-- Inner contracts: the stamps of listed pairs, word by word.
use Rattle.std.specs.Prelude.{◌≡◌, List, Bool, true, false, ℕ, ◌+◌, ◌*◌, ◌<◌, get_or, drop}
use Rattle.model.specs.Count.{rows}
use Rattle.model.specs.Graph.{Graph}

-- the stamp of a pair after a build: the starting stamp where it is listed, else 0
abbrev pub stamp_of : ℕ → Bool → ℕ
stamp_of start true = start
stamp_of start false = 0

-- stamps of n operators and m rides, by whether a pair is listed; stamps past them are as they came
pub record Stamped (is_listed : ℕ → ℕ → Bool) (n m start : ℕ) (old new : List ℕ) : Type 0 where
  pub stamps : (u v : ℕ) → u < n → v < m → get_or new (u * m + v) 0 ≡ stamp_of start (is_listed u v)
  pub tail : drop (n * m) new ≡ drop (n * m) old

-- the stamps of a build: the starting stamp for listed pairs, 0 for the others
unfoldable pub start_stamps : Graph → ℕ → List ℕ
start_stamps g start = rows g.operators g.rides (λ u v. elim (g.cleared u v) [ true ↦ start | false ↦ 0 ])
