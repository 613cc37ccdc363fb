-- Inner contracts: who is in a cover, from a row of levels.
use Rattle.std.specs.Prelude.{List, ℕ, zero, suc, ◌+◌, max, get_or}

-- the least level with which a node of this limit is in cover (α, β)
abbrev pub least_level : ℕ → ℕ → ℕ
least_level zero β = 0
least_level (suc limit) β = max β 1

-- the level of the node first + i in a row
abbrev pub level_at : List ℕ → ℕ → ℕ → ℕ
level_at levels first i = get_or levels (first + i) 0
