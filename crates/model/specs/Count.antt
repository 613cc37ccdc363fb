-- Numbers 0 .. k - 1 that pass a test: how many, the lowest; and lists of values at 0 .. k - 1.
use Rattle.std.specs.Prelude.{Bool, true, false, not, List, [], ◌∷◌, ◌++◌, ℕ, zero, suc, ◌+◌, ltb}

-- 1 for true, 0 for false
abbrev pub bit : Bool → ℕ
bit true = 1
bit false = 0

-- how many of 0 .. k - 1 pass the test
unfoldable pub count : ℕ → (ℕ → Bool) → ℕ
count zero p = 0
count (suc k) p = count k p + bit (p k)

-- whether one of 0 .. k - 1 passes the test
unfoldable pub some : ℕ → (ℕ → Bool) → Bool
some k p = ltb 0 (count k p)

-- the lowest of 0 .. k - 1 that passes the test; k where none does
unfoldable pub lowest : ℕ → (ℕ → Bool) → ℕ
lowest zero p = 0
lowest (suc k) p = elim (ltb (lowest k p) k) [ true ↦ lowest k p | false ↦ k + bit (not (p k)) ]

-- the values at 0 .. k - 1
unfoldable pub values : ℕ → (ℕ → ℕ) → List ℕ
values zero f = []
values (suc k) f = values k f ++ (f k ∷ [])

-- k rows of w values each, one after the other: row i has the values at (i, 0) .. (i, w - 1)
unfoldable pub rows : ℕ → ℕ → (ℕ → ℕ → ℕ) → List ℕ
rows zero w f = []
rows (suc k) w f = rows k w f ++ values w (f k)

-- those of 0 .. k - 1 that pass the test, ascending
unfoldable pub passing : ℕ → (ℕ → Bool) → List ℕ
passing zero p = []
passing (suc k) p = elim (p k) [ true ↦ passing k p ++ (k ∷ []) | false ↦ passing k p ]
