-- Inner contracts: a crowd table as words, four a band, in the order of its fields.
use Rattle.std.specs.Prelude.{◌≡◌, List, ℕ, ◌+◌, ◌*◌, ◌<◌, get_or}
use Rattle.model.specs.declared.Bands.{Bands}
use Rattle.model.specs.Crowd.{band}

abbrev pub alpha_of : List ℕ → ℕ → ℕ
alpha_of words i = get_or words (i * 4 + 2) 0

abbrev pub beta_of : List ℕ → ℕ → ℕ
beta_of words i = get_or words (i * 4 + 3) 0

-- the words of the first k bands of a table
pub record WordsUpTo (k : ℕ) (t : Bands) (words : List ℕ) : Type 0 where
  pub first : (i : ℕ) → i < k → get_or words (i * 4) 0 ≡ (band t i).first
  pub last : (i : ℕ) → i < k → get_or words (i * 4 + 1) 0 ≡ (band t i).last
  pub alpha : (i : ℕ) → i < k → alpha_of words i ≡ (band t i).alpha
  pub beta : (i : ℕ) → i < k → beta_of words i ≡ (band t i).beta
