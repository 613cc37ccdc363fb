-- Document 01, The program `cover`: the lines that it prints, as bytes. Every printed line ends with a line feed.
use Rattle.std.specs.Prelude.{Bool, true, false, List, [], ◌∷◌, ◌++◌, ℕ, zero, suc, ◌+◌, ◌/◌, ◌%◌, ltb}
use Prim.Native.Char.{code}
use Prim.Native.String.{String}
use Rattle.model.specs.Count.{count}

-- the bytes of a text of ASCII characters
abbrev pub bytes : String → List ℕ
bytes String.[] = []
bytes (String.◌∷◌ c cs) = code c ∷ bytes cs

-- the byte of the last digit of n in base ten
abbrev pub digit : ℕ → ℕ
digit n = 48 + n % 10

-- the digits of n in base ten, at most f + 1 of them
unfoldable pub digits : ℕ → ℕ → List ℕ
digits zero n = digit n ∷ []
digits (suc f) n = elim (ltb n 10) [ true ↦ digit n ∷ [] | false ↦ digits f (n / 10) ++ (digit n ∷ []) ]

-- a number in base ten
unfoldable pub decimal : ℕ → List ℕ
decimal n = digits n n

-- a number and the character after it: a space, or the line feed
abbrev pub field : ℕ → String → List ℕ
field number after = decimal number ++ bytes after

-- a refusal: `refused ` and the number, alone
unfoldable pub refusal_line : ℕ → List ℕ
refusal_line number = bytes "refused " ++ field number "\n"

-- the first line: α, β, operators, rides in the cover
unfoldable pub first_line : ℕ → ℕ → ℕ → ℕ → List ℕ
first_line α β operators rides = bytes "cover " ++ field α " " ++ field β " " ++ field operators " " ++ field rides "\n"

-- the line of an operator or a ride: number, level in row α
unfoldable pub node_line : List ℕ → ℕ → ℕ → List ℕ
node_line name number level = name ++ field number " " ++ field level "\n"

-- the line of a node that is in the cover, and nothing for one that is not
abbrev pub member_line : List ℕ → Bool → ℕ → ℕ → List ℕ
member_line name inside number level = elim inside [ true ↦ node_line name number level | false ↦ [] ]

-- the lines of those of 0 .. k - 1 that are in the cover, ascending
unfoldable pub member_lines : List ℕ → (ℕ → Bool) → (ℕ → ℕ) → ℕ → List ℕ
member_lines name inside level zero = []
member_lines name inside level (suc k) =
    member_lines name inside level k ++ member_line name (inside k) k (level k)

-- the whole text for n operators and m rides, of the nodes inside and their levels; ride v is node n + v
unfoldable pub report_text : ℕ → ℕ → ℕ → ℕ → (ℕ → Bool) → (ℕ → ℕ) → List ℕ
report_text α β n m inside level =
    first_line α β (count n inside) (count m (λ v. inside (n + v))) ++
    member_lines (bytes "operator ") inside level n ++
    member_lines (bytes "ride ") (λ v. inside (n + v)) (λ v. level (n + v)) m
