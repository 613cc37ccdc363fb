-- Document 01, The program `cover`, and document 02, 2.1: a function from the bytes of its input to the bytes of its output.
use Rattle.std.specs.Prelude.{◌≡◌, ◌≢◌, Bool, List, [], ◌∷◌, ◌++◌, ℕ, zero, suc, ◌≤◌, length, take}
use Rattle.model.specs.declared.Head.{Head}
use Rattle.model.specs.Graph.{marked, cover, level, row_for}
use Rattle.model.specs.Layout.{over, graph}
use Rattle.model.specs.Refusal.{refused_5, first_number}
use Rattle.cover_input.specs.Input.{head, operators, rides, alpha, beta, size_cases}
use Rattle.cover_text.specs.Text.{refusal_line, report_text}

-- what `cover` checks after its input's length and head: 5
abbrev pub content_cases : Head → List ℕ → List ℕ → List (ℕ × Bool)
content_cases h operators rides = (5, refused_5 h operators rides) ∷ []

-- the lines of the cover (α, β) of a pair table, with the levels in row α, in row 1 for α = 0
unfoldable pub cover_lines : Head → List ℕ → List ℕ → ℕ → ℕ → List ℕ
cover_lines h operators rides α β =
    report_text α β h.operators h.rides (marked (cover (graph h operators rides) α β))
    (level (graph h operators rides) (row_for α))

-- what is printed: the lines where no number applies (0), else the refusal alone
abbrev pub printed : ℕ → List ℕ → List ℕ
printed zero lines = lines
printed (suc k) lines = refusal_line (suc k)

-- the number of the first check, in the order of `cover`, that refuses the input; 0 if none does
unfoldable pub cover_refusal : List ℕ → ℕ
cover_refusal input =
    let h = head input in
    first_number
    (size_cases (length input) h ++
    content_cases h (operators input h.pairs) (rides input h.pairs))

-- the output of `cover`, from its input
unfoldable pub cover_text : List ℕ → List ℕ
cover_text input =
    let h = head input in
    printed (cover_refusal input)
    (cover_lines h (operators input h.pairs) (rides input h.pairs) (alpha input h.pairs) (beta input h.pairs))

-- what the call leaves: the output over the old bytes of the lent buffer, and how many bytes it has
pub record Reported (input old new : List ℕ) (r : ℕ) : Type 0 where
  pub size : r ≡ length (cover_text input)
  pub text : new ≡ over (cover_text input) old
  pub fits : r ≤ length new

-- Document 02, 2.1: `cover` never prints 11
abbrev pub NeverEleven : Type 0
NeverEleven = (input : List ℕ) → cover_refusal input ≢ 11

-- no byte after the first 48,011 changes the output: the longest board has 48,010 bytes
abbrev pub EnoughRead : Type 0
EnoughRead = (input : List ℕ) → cover_text (take 48011 input) ≡ cover_text input
