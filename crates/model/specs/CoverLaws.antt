-- Laws of covers and levels, document 01 and Definition 2.1 of document 000, of every graph, limit and starting set.
use Rattle.std.specs.Prelude.{◌≡◌, ◌↔◌, Bool, List, ℕ, ◌+◌, ◌-◌, ◌*◌, ◌≤◌, ◌<◌, T, length, get_or}
use Rattle.model.specs.Count.{count}
use Rattle.model.specs.Graph.{Graph, nodes, degree, everybody, Inside, Largest, limits, Core, marked, settled, peel, cover_under, cover, level, row_for, in_by_level, index_of}

-- how many nodes are marked
abbrev pub members : Graph → List ℕ → ℕ
members g s = count (nodes g) (marked s)

-- all ones: the mark of each node is 1
abbrev pub AllOnes : Graph → List ℕ → Type 0
AllOnes g s = (x : ℕ) → x < nodes g → get_or s x 0 ≡ 1

-- Cover (α, β) is the (α, β)-core of Definition 2.1, with limits from 0; covers nest in α and in β
pub record CoverLaws : Type 0 where
  pub core : (g : Graph) (α β : ℕ) → Core g α β (marked (cover g α β))
  -- a settled peel from all ones leaves it, whatever lies behind the nodes' marks
  pub peeled : (g : Graph) (α β f : ℕ) (s : List ℕ) → AllOnes g s →
      T (settled g (limits g.operators α β) (peel g (limits g.operators α β) f s)) → Core g α β (marked (peel g (limits g.operators α β) f s))
  pub nest : (g : Graph) (α α' β β' : ℕ) → α ≤ α' → β ≤ β' → Inside g (marked (cover g α' β')) (marked (cover g α β))

-- The cover under a limit for each node, whatever the limits are
pub record CoverUnderLaws : Type 0 where
  -- it is the largest set that meets them
  pub largest : (g : Graph) (limit : ℕ → ℕ) → Largest g limit everybody (marked (cover_under g limit))
  -- in whatever order nodes were dropped: marks of 0 and 1 for that set are those of the peel
  pub only : (g : Graph) (limit : ℕ → ℕ) (s : List ℕ) → length s ≡ nodes g → ((x : ℕ) → x < nodes g → get_or s x 0 ≤ 1) →
      Largest g limit everybody (marked s) → s ≡ cover_under g limit

-- the graph g with other clearances
abbrev pub changed : Graph → (ℕ → ℕ → Bool) → Graph
changed g c = record { operators = g.operators; rides = g.rides; cleared = c }

-- Level and Index
pub record LevelLaws : Type 0 where
  -- x is in cover (α, β) exactly if β is at most its level in row α
  pub holds : (g : Graph) (α β x : ℕ) → 1 ≤ α → 1 ≤ β → x < nodes g → T (marked (cover g α β) x) ↔ (β ≤ level g α x)
  -- with limits from 0: exactly if its own limit is 0, or its level in row α, row 1 for α = 0, is at least β, and at least 1
  pub from_zero : (g : Graph) (α β x : ℕ) → x < nodes g → marked (cover g α β) x ≡ in_by_level (limits g.operators α β x) β (level g (row_for α) x)
  -- levels depend on the clearances below the sizes and on nothing else
  pub same : (g : Graph) (c : ℕ → ℕ → Bool) → ((u v : ℕ) → u < g.operators → v < g.rides → g.cleared u v ≡ c u v) →
      (α x : ℕ) → x < nodes g → level (changed g c) α x ≡ level g α x
  -- a row above the largest degree of an operator is all 0
  pub above : (g : Graph) (α : ℕ) → ((u : ℕ) → u < g.operators → degree g everybody u < α) → (x : ℕ) → x < nodes g → level g α x ≡ 0
  pub bound : (g : Graph) (α x : ℕ) → level g α x ≤ g.operators
  -- row α starts at (α − 1) × (operators + rides)
  pub place : (g : Graph) (α x : ℕ) → 1 ≤ α → α ≤ g.rides → x < nodes g → get_or (index_of g) ((α - 1) * nodes g + x) 0 ≡ level g α x
