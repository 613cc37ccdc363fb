-- Inner contracts: what the writers of text ensure of text that is written.
use Rattle.std.specs.Prelude.{◌≡◌, List, ℕ, ◌+◌, ◌≤◌, length}
use Rattle.std.proofs.lemmas.List.Edits.{sets}

-- the text was stored from the place at on and ends before the place end, at most `most` bytes further; every other byte stays
pub record Wrote (old : List ℕ) (at : ℕ) (text : List ℕ) (most : ℕ) (new : List ℕ) (end : ℕ) : Type 0 where
  pub bytes : new ≡ sets old at text
  pub stops : end ≡ at + length text
  pub short : end ≤ at + most
