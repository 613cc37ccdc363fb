-- Document 01, The program `cover`: its input, and what is checked of its size.
use Rattle.std.specs.Prelude.{Bool, not, List, [], ◌∷◌, ℕ, ◌+◌, ◌*◌, ltb, eqb, get_or}
use Rattle.model.specs.declared.Head.{Head}
use Rattle.model.specs.Count.{values}
use Rattle.model.specs.Refusal.{refused_1, refused_2, refused_4}

-- the 16-bit little-endian word at place i of the input
abbrev pub word : List ℕ → ℕ → ℕ
word input i = get_or input (2 * i) 0 + 256 * get_or input (2 * i + 1) 0

-- k words of the input, from a place on
abbrev pub words_from : List ℕ → ℕ → ℕ → List ℕ
words_from input start k = values k (λ i. word input (start + i))

-- the first words of the input: the head
abbrev pub head : List ℕ → Head
head input = record { operators = word input 0; rides = word input 1; pairs = word input 2 }

-- then the operator numbers, as many as pairs
abbrev pub operators : List ℕ → ℕ → List ℕ
operators input pairs = words_from input 3 pairs

-- then the ride numbers, as many as pairs
abbrev pub rides : List ℕ → ℕ → List ℕ
rides input pairs = words_from input (3 + pairs) pairs

-- then α
abbrev pub alpha : List ℕ → ℕ → ℕ
alpha input pairs = word input (3 + 2 * pairs)

-- then β
abbrev pub beta : List ℕ → ℕ → ℕ
beta input pairs = word input (4 + 2 * pairs)

-- what `cover` checks of its input's length and head: at least 6 bytes (13), 1, 2, 4, exact length 10 + 4 × pairs bytes (13)
abbrev pub size_cases : ℕ → Head → List (ℕ × Bool)
size_cases size h =
    (13, ltb size 6) ∷
    (1, refused_1 h) ∷
    (2, refused_2 h) ∷
    (4, refused_4 h) ∷
    (13, not (eqb size (10 + 4 * h.pairs))) ∷ []
