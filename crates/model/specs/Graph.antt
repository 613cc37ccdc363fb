-- Document 000, Definition 2.1; document 01, Terms and Peel; document 02, 2.1, 2.4 and 2.7: degree, the largest set under limits, minimums,
-- counting pairs, peel, cover, level, index.
-- Nodes are numbered as marks and index rows are: operators 0 .. operators - 1, then rides.
use Rattle.std.specs.Prelude.{Bool, true, false, ◌&&◌, ◌||◌, not, List, [], ◌∷◌, ℕ, zero, suc, ◌+◌, ◌-◌, ◌≤◌, ◌<◌, max, T, ltb, leb, eqb, get_or, set, replicate}
use Rattle.model.specs.Count.{count, some, lowest, values, rows}

-- the clearance graph: how many operators and rides there are, and which operator is cleared for which ride
pub record Graph : Type 0 where
  pub operators : ℕ
  pub rides : ℕ
  pub cleared : ℕ → ℕ → Bool

-- the number of nodes: operators and rides
abbrev pub nodes : Graph → ℕ
nodes g = g.operators + g.rides

-- Degree inside a set s: of an operator, the rides of s that it is cleared for; of a ride, the operators of s cleared for it
unfoldable pub degree : Graph → (ℕ → Bool) → ℕ → ℕ
degree g s x =
    elim (ltb x g.operators) [
      | true ↦ count g.rides (λ v. g.cleared x v && s (g.operators + v))
      | false ↦ count g.operators (λ u. g.cleared u (x - g.operators) && s u)
    ]

-- everybody: the set of all nodes
abbrev pub everybody : ℕ → Bool
everybody x = true

-- of the nodes of g, those of s are all in t
abbrev pub Inside : Graph → (ℕ → Bool) → (ℕ → Bool) → Type 0
Inside g s t = (x : ℕ) → x < nodes g → T (s x) → T (t x)

-- each node of s has at least its limit of neighbours in s
abbrev pub Meets : Graph → (ℕ → ℕ) → (ℕ → Bool) → Type 0
Meets g limit s = (x : ℕ) → x < nodes g → T (s x) → limit x ≤ degree g s x

-- s is the largest set inside start whose nodes all meet their limits
pub record Largest (g : Graph) (limit : ℕ → ℕ) (start s : ℕ → Bool) : Type 0 where
  pub inside : Inside g s start
  pub meets : Meets g limit s
  pub largest : (t : ℕ → Bool) → Inside g t start → Meets g limit t → Inside g t s

-- the limits of a cover (α, β), with so many operators: α for operators, β for rides; 0 is no limit
unfoldable pub limits : ℕ → ℕ → ℕ → ℕ → ℕ
limits operators α β x = elim (ltb x operators) [ true ↦ α | false ↦ β ]

-- Document 02, 2.7: the limit of ride v, by a list of minimums: its own minimum where that isn't 0, β elsewhere
abbrev pub ride_limit : List ℕ → ℕ → ℕ → ℕ
ride_limit minimums β v = elim (eqb (get_or minimums v 0) 0) [ true ↦ β | false ↦ get_or minimums v 0 ]

-- Document 02, 2.7: the limits of a cover (α, β) with minimums: α for operators, for each ride its own minimum where it has one, else β
unfoldable pub own_limits : ℕ → List ℕ → ℕ → ℕ → ℕ → ℕ
own_limits operators minimums α β x = limits operators α (ride_limit minimums β (x - operators)) x

-- Definition 2.1 inside a set: s is the largest set of those who are here whose nodes all meet the limits (α, β)
abbrev pub CoreInside : Graph → (ℕ → Bool) → ℕ → ℕ → (ℕ → Bool) → Type 0
CoreInside g here α β s = Largest g (limits g.operators α β) here s

-- Definition 2.1: s is the (α, β)-core
abbrev pub Core : Graph → ℕ → ℕ → (ℕ → Bool) → Type 0
Core g α β s = CoreInside g everybody α β s

-- the set that Marks stand for: 1 is in
abbrev pub marked : List ℕ → ℕ → Bool
marked s x = eqb (get_or s x 0) 1

-- Document 02, 2.4: who is present by these words: 1 is on shift or in service, any other word is off or out
abbrev pub present : List ℕ → ℕ → Bool
present words x = marked words x

-- Document 02, 2.4: the pairs that count are cleared, with the operator and the ride both here
abbrev pub counting : Graph → (ℕ → Bool) → Graph
counting g here =
    record {
      operators = g.operators;
      rides = g.rides;
      cleared = λ u v. g.cleared u v && (here u && here (g.operators + v));
    }

-- Document 02, 2.4: the limits of so many nodes under which whoever is not here falls short, limit 0 included: no degree is above that number
unfoldable pub raised : ℕ → (ℕ → Bool) → (ℕ → ℕ) → ℕ → ℕ
raised nodes here limit x = elim (here x) [ true ↦ limit x | false ↦ suc nodes ]

-- who falls short: marked, with fewer marked neighbours than its limit
unfoldable pub short : Graph → (ℕ → ℕ) → List ℕ → ℕ → Bool
short g limit s x = marked s x && ltb (degree g (marked s) x) (limit x)

-- settled: nobody falls short
unfoldable pub settled : Graph → (ℕ → ℕ) → List ℕ → Bool
settled g limit s = not (some (nodes g) (short g limit s))

-- Peel: the nodes cleared in at most f steps, in order: each the lowest-numbered operator that falls short, else the lowest-numbered ride
unfoldable pub removals : Graph → (ℕ → ℕ) → ℕ → List ℕ → List ℕ
removals g limit zero s = []
removals g limit (suc f) s =
    elim (settled g limit s) [
      | true ↦ []
      | false ↦ lowest (nodes g) (short g limit s) ∷ removals g limit f (set s (lowest (nodes g) (short g limit s)) 0)
    ]

-- the marks s with those of the nodes xs cleared
unfoldable pub without : List ℕ → List ℕ → List ℕ
without s [] = s
without s (x ∷ xs) = without (set s x 0) xs

-- Peel: the marks after at most f steps
unfoldable pub peel : Graph → (ℕ → ℕ) → ℕ → List ℕ → List ℕ
peel g limit f s = without s (removals g limit f s)

-- the cover under a limit for each node, as marks: the peel from all ones
unfoldable pub cover_under : Graph → (ℕ → ℕ) → List ℕ
cover_under g limit = peel g limit (nodes g) (replicate (nodes g) 1)

-- Cover (α, β), as marks
unfoldable pub cover : Graph → ℕ → ℕ → List ℕ
cover g α β = cover_under g (limits g.operators α β)

-- the largest β from 1 to b whose cover (α, β) holds x, or 0 if none does
unfoldable pub level_to : Graph → ℕ → ℕ → ℕ → ℕ
level_to g α x zero = 0
level_to g α x (suc b) = elim (marked (cover g α (suc b)) x) [ true ↦ suc b | false ↦ level_to g α x b ]

-- Level of x in row α: no cover from α = 1 on holds anybody with β above the number of operators
unfoldable pub level : Graph → ℕ → ℕ → ℕ
level g α x = level_to g α x g.operators

-- Document 02, 2.1: the row by which a cover (α, β) is read off: row α, or row 1 for α = 0
abbrev pub row_for : ℕ → ℕ
row_for α = max α 1

-- Document 02, 2.1: who is in by its level in that row: with the limit 0 everybody, else whoever has at least level β, and at least level 1
abbrev pub in_by_level : ℕ → ℕ → ℕ → Bool
in_by_level limit β level = eqb limit 0 || leb (max β 1) level

-- row α of the Index: the levels of the operators, then of the rides
unfoldable pub row : Graph → ℕ → List ℕ
row g α = values (nodes g) (level g α)

-- Index: the rows α = 1 to rides
unfoldable pub index_of : Graph → List ℕ
index_of g = rows g.rides (nodes g) (λ a x. level g (suc a) x)
