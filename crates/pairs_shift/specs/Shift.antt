-- Inner contracts: a word inserted into an array or removed from it.
use Rattle.std.specs.Prelude.{◌≡◌, List, ℕ, ◌+◌, ◌-◌, ◌≤◌, ◌<◌, get_or, drop}

-- a word stands at a place of the first n + 1, and those from there on are one place higher
pub record Inserted (place n word : ℕ) (old new : List ℕ) : Type 0 where
  pub below : (k : ℕ) → k < place → get_or new k 0 ≡ get_or old k 0
  pub here : get_or new place 0 ≡ word
  pub above : (k : ℕ) → place < k → k ≤ n → get_or new k 0 ≡ get_or old (k - 1) 0
  pub rest : drop (n + 1) new ≡ drop (n + 1) old

-- the words behind a place of the first n are one place lower
pub record Removed (place n : ℕ) (old new : List ℕ) : Type 0 where
  pub below : (k : ℕ) → k < place → get_or new k 0 ≡ get_or old k 0
  pub above : (k : ℕ) → place ≤ k → k + 1 < n → get_or new k 0 ≡ get_or old (k + 1) 0
  pub rest : drop n new ≡ drop n old
