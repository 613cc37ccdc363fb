-- Inner contracts: the numbers of a pair table that its head and its lengths decide.
use Rattle.std.specs.Prelude.{Bool, List, [], ◌∷◌, ℕ}
use Rattle.model.specs.declared.Head.{Head}
use Rattle.model.specs.Refusal.{refused_1, refused_2, refused_4}

-- 1 to 4; too_short is the call's own 3
abbrev pub head_cases : Head → Bool → List (ℕ × Bool)
head_cases h too_short = (1, refused_1 h) ∷ (2, refused_2 h) ∷ (3, too_short) ∷ (4, refused_4 h) ∷ []
