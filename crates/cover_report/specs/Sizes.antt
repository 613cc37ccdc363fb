-- Inner contracts: what the functions behind `cover` require and ensure, once sizes are checked.
use Rattle.std.specs.Prelude.{List, ℕ, ◌*◌, ◌≤◌}
use Rattle.model.specs.declared.Head.{Head}
use Rattle.model.specs.Refusal.{first_number}
use Rattle.cover_input.specs.Input.{operators, rides, alpha, beta}
use Rattle.cover_report.specs.Program.{content_cases, cover_lines, printed}

-- a head that no check of the sizes refuses: 1, 2 and 4 do not apply
pub record Sizes (h : Head) : Type 0 where
  pub few_operators : h.operators ≤ 200
  pub few_rides : h.rides ≤ 60
  pub few_pairs : h.pairs ≤ h.operators * h.rides

-- the output for a pair table, once its sizes are checked
abbrev pub table_text : Head → List ℕ → List ℕ → ℕ → ℕ → List ℕ
table_text h operators rides α β =
    printed (first_number (content_cases h operators rides)) (cover_lines h operators rides α β)

-- the output for an input with the head h, once the sizes are checked
abbrev pub input_text : List ℕ → Head → List ℕ
input_text input h =
    table_text h (operators input h.pairs) (rides input h.pairs) (alpha input h.pairs) (beta input h.pairs)
