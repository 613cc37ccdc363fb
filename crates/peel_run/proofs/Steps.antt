-- Laws of a step: where to look on after a node was dropped, and who is dropped next.
use mathlib.Core.Path.{◌≡◌, refl, sym, subst}
use mathlib.Core.List.{List}
use Prim.Native.Nat.{ℕ, ◌+◌, ◌≤◌, ◌<◌}
use native.Mathlib.Omega.{arith}
use Rattle.std.specs.Prelude.{Option}
use lib.Dec.{T}
use lib.ListN.{set}
use Rattle.model.specs.Count.{lowest}
use Rattle.model.specs.Graph.{Graph, nodes, short}
use Rattle.model.proofs.Count.{lowest_least}
use Rattle.graph_drops.specs.Drop.{lacks, IsLowest, looked_from, Held, NodeDropped}
use Rattle.graph_drops.proofs.Drop.{dropped}
use Rattle.graph_drops.proofs.Lacking.{lowest_lacking, looked_passed, looked_inside}
use Rattle.peel_run.specs.declared.State.{State}
use Rattle.peel_run.specs.Steps.{Lowered, Stepped}

-- the lowest whose degree is below its limit in bytes is the lowest that falls short
pub next_short : (g : Graph) (limit : ℕ → ℕ) → g.operators ≤ 200 → g.rides ≤ 60 → (n c : ℕ) (degrees limits marks : List ℕ) → Held g limit n c degrees limits marks → (r : Option ℕ) → IsLowest r (n + c) (lowest (n + c) (lacks degrees limits)) → IsLowest r (nodes g) (lowest (nodes g) (short g limit marks))
next_short g limit few few' n c degrees limits marks held r low =
    let e : n + c ≡ nodes g = omega (arith, held.remaining.operators_are, held.remaining.rides_are) in
    subst (IsLowest r (nodes g)) (lowest_lacking g few few' limit n c degrees limits marks held) (subst (λ (k : ℕ). IsLowest r k (lowest k (lacks degrees limits))) e low)

-- x, the lowest that fell short, was dropped
module _ (g : Graph) (limit : ℕ → ℕ) (few : g.operators ≤ 200) (few' : g.rides ≤ 60) (n c : ℕ) (marks : List ℕ) (x : ℕ) (e : x ≡ lowest (nodes g) (short g limit marks)) (h : x < nodes g) (degrees limits marks' : List ℕ) (d : NodeDropped g limit n c marks x degrees limits marks') where
  held : Held g limit n c degrees limits (set marks x 0)
  held = subst (Held g limit n c degrees limits) d.marks_are d.held

  first : (y : ℕ) → y < x → T (short g limit marks y) → ⊥
  first y l = lowest_least (short g limit marks) (nodes g) y (omega arith)

  -- nobody below the place where one looks on falls short
  pub next_from : (from : ℕ) → from ≡ looked_from degrees limits n x → (from ≤ n + c) × (n + c ≤ 260) × ((y : ℕ) → y < from → T (lacks degrees limits y) → ⊥)
  next_from from f = (
    omega (arith, f, looked_inside g few few' limit n c marks x h first degrees limits held, held.remaining.operators_are, held.remaining.rides_are),
    omega (arith, held.remaining.operators_are, held.remaining.rides_are),
    λ y l. looked_passed g few few' limit n c marks x h first degrees limits held y (omega arith),
  )

-- the mark and the limit of the next node cleared
module _ (g : Graph) (limit : ℕ → ℕ) (s : State) (x : ℕ) (limits marks : List ℕ) (o : Lowered g limit s x limits marks) (h : x < s.operators + s.rides) where
  inside : x < nodes g
  inside = omega (arith, o.remaining.operators_are, o.remaining.rides_are)

  pub next_dropped : NodeDropped g limit s.operators s.rides marks x s.degrees (set limits x 0) (set marks x 0)
  next_dropped = dropped g limit s.operators s.rides limits marks o.room o.limits_long o.limits_are x inside (omega (arith, o.few_operators, o.few_rides)) s.degrees o.remaining

  pub next_looked : (from : ℕ) → from ≡ looked_from s.degrees (set limits x 0) s.operators x → (from ≤ s.operators + s.rides) × (s.operators + s.rides ≤ 260) × ((y : ℕ) → y < from → T (lacks s.degrees (set limits x 0) y) → ⊥)
  next_looked = next_from g limit o.few_operators o.few_rides s.operators s.rides marks x o.next inside s.degrees (set limits x 0) (set marks x 0) next_dropped

  pub stepped : (r : State) → r.degrees ≡ s.degrees → r.operators ≡ s.operators → r.rides ≡ s.rides → r.steps ≡ s.steps + 1 → IsLowest r.next (s.operators + s.rides) (lowest (s.operators + s.rides) (lacks s.degrees (set limits x 0))) → Stepped g limit s x marks r (set limits x 0) (set marks x 0)
  stepped r d e f k l =
      record {
        steps = k;
        marks_are = refl;
        state = record {
          held =
              subst (λ (n : ℕ). Held g limit n r.rides r.degrees (set limits x 0) (set marks x 0)) (sym e)
              (subst (λ (c : ℕ). Held g limit s.operators c r.degrees (set limits x 0) (set marks x 0)) (sym f)
              (subst (λ (z : List ℕ). Held g limit s.operators s.rides z (set limits x 0) (set marks x 0)) (sym d) next_dropped.held));
          next = next_short g limit o.few_operators o.few_rides s.operators s.rides s.degrees (set limits x 0) (set marks x 0) next_dropped.held r.next l;
        };
      }
