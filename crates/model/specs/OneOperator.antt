-- How levels move with the pairs of one operator: demand 3, its last sentence, and document 02, 2.4.
use Rattle.std.specs.Prelude.{◌≡◌, ◌≢◌, Bool, ℕ, ◌+◌, ◌≤◌, ◌<◌, max, T}
use Rattle.model.specs.Graph.{Graph, nodes, degree, everybody, level}
use Rattle.model.specs.CoverLaws.{changed}

-- below the sizes the clearances c have all of g's, and further ones, if any, of the operator u alone
pub record Gained (g : Graph) (c : ℕ → ℕ → Bool) (u : ℕ) : Type 0 where
  pub operator : u < g.operators
  pub kept : (a v : ℕ) → a < g.operators → v < g.rides → T (g.cleared a v) → T (c a v)
  pub alone : (a v : ℕ) → a < g.operators → v < g.rides → a ≢ u → T (c a v) → T (g.cleared a v)

-- how levels move from g to g', which has further pairs of the operator u; from g' to g, where they are removed, they move back
pub record OneMove (g g' : Graph) (u : ℕ) : Type 0 where
  -- rows above the larger of the operator's two degrees stay
  pub stays : (α x : ℕ) → max (degree g everybody u) (degree g' everybody u) < α → x < nodes g → level g' α x ≡ level g α x
  -- in every other row each level but that operator's own moves by at most 1, up where pairs are added
  pub up : (α x : ℕ) → 1 ≤ α → x < nodes g → x ≢ u → level g α x ≤ level g' α x
  pub by_one : (α x : ℕ) → 1 ≤ α → x < nodes g → x ≢ u → level g' α x ≤ level g α x + 1

-- Demand 3, its last sentence, of any set of pairs of one operator, all added or all removed; one pair is a case, and so is none
abbrev pub OneOperator : Type 0
OneOperator = (g : Graph) (c : ℕ → ℕ → Bool) (u : ℕ) → Gained g c u → OneMove g (changed g c) u
