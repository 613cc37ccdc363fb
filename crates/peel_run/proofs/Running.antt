-- Laws of a run of steps: what was taken and what is left make up the peel.
use mathlib.Core.Path.{◌≡◌, sym, ap, ◌∙◌, subst}
use Rattle.std.specs.Prelude.{Option, Some, None}
use mathlib.Core.List.{List}
use Prim.Native.Nat.{ℕ, suc, ◌+◌, ◌-◌, ◌≤◌, ◌<◌}
use native.Mathlib.Omega.{arith}
use lib.Dec.{T}
use lib.ListN.{length, set}
use Rattle.model.specs.Graph.{Graph, nodes, marked, short, removals, peel}
use Rattle.model.specs.Count.{lowest}
use Rattle.model.proofs.Peel.{lowest_marked, peel_spent, peel_settled, peel_step, settled_lowest, unsettled_lowest_lt}
use Rattle.graph_tables.specs.Table.{Tables}
use Rattle.graph_drops.specs.Drop.{IsLowest, Remaining}
use Rattle.peel_run.specs.declared.State.{State}
use Rattle.peel_run.specs.Steps.{StateOf, Lowered, Stepped}
use Rattle.peel_run.specs.Run.{Ran}

-- the sizes of a state are those that the run started with
pub same_sizes : (g : Graph) (n c n' c' : ℕ) (marks degrees : List ℕ) → Remaining g n c marks degrees → n' ≡ g.operators → c' ≡ g.rides → Remaining g n' c' marks degrees
same_sizes g n c n' c' marks degrees o e f = record { operators_are = e; rides_are = f; degrees_long = o.degrees_long; degrees_are = o.degrees_are }

-- the next node of a state, and that nobody falls short where it has none
module _ (g : Graph) (limit : ℕ → ℕ) (s : State) (limits marks : List ℕ) (o : StateOf g limit s limits marks) where
  pub next_is : (x : ℕ) → s.next ≡ Some x → (x < nodes g) × (x ≡ lowest (nodes g) (short g limit marks))
  next_is x e = subst (λ (r : Option ℕ). IsLowest r (nodes g) (lowest (nodes g) (short g limit marks))) e o.next

  -- the next node is marked, and the degrees are those of the sizes that the run started with
  pub next_row : (x : ℕ) → s.next ≡ Some x → (n c : ℕ) → n ≡ g.operators → c ≡ g.rides → Remaining g n c marks s.degrees × T (marked marks x)
  next_row x e n c a b =
      let l = next_is x e in
      (same_sizes g s.operators s.rides n c marks s.degrees o.held.remaining a b, lowest_marked g limit marks x l.1 l.0)

  pub next_none : s.next ≡ None → lowest (nodes g) (short g limit marks) ≡ nodes g
  next_none e = subst (λ (r : Option ℕ). IsLowest r (nodes g) (lowest (nodes g) (short g limit marks))) e o.next

-- a state whose next node's row is subtracted
pub lowered : (g : Graph) (limit : ℕ → ℕ) (rows columns : List ℕ) → Tables g rows columns → (s : State) (limits marks : List ℕ) (o : StateOf g limit s limits marks) (x : ℕ) → s.next ≡ Some x → (n c : ℕ) (degrees : List ℕ) → Remaining g n c (set marks x 0) degrees → Lowered g limit (record { degrees = degrees; operators = s.operators; rides = s.rides; steps = s.steps; next = s.next }) x limits marks
lowered g limit rows columns t s limits marks o x e n c degrees r =
    record {
      few_operators = t.by_ride.wide;
      few_rides = t.by_operator.wide;
      remaining = same_sizes g n c s.operators s.rides (set marks x 0) degrees r o.held.remaining.operators_are o.held.remaining.rides_are;
      room = o.held.room;
      limits_long = o.held.limits_long;
      limits_are = o.held.limits_are;
      next = (next_is g limit s limits marks o x e).1;
    }

module _ (g : Graph) (limit : ℕ → ℕ) (allowed : ℕ) (marks₀ : List ℕ) where
  -- on the way from marks₀: the peel is the steps taken and the peel from the marks now, with the steps that are left
  pub record Running (s : State) (limits marks : List ℕ) : Type 0 where
    pub state : StateOf g limit s limits marks
    pub steps : length (removals g limit allowed marks₀) ≡ s.steps + length (removals g limit (allowed - s.steps) marks)
    pub marks_are : peel g limit allowed marks₀ ≡ peel g limit (allowed - s.steps) marks

  pub running_start : (s : State) (limits : List ℕ) → StateOf g limit s limits marks₀ → s.steps ≡ 0 → Running s limits marks₀
  running_start s limits o e =
      let f : allowed - s.steps ≡ allowed = omega arith in
      record {
        state = o;
        steps = omega (arith, ap (λ (k : ℕ). length (removals g limit k marks₀)) f);
        marks_are = ap (λ (k : ℕ). peel g limit k marks₀) (sym f);
      }

  -- a step from s with the row of its next node subtracted
  pub running_step : (s s' r : State) (x : ℕ) (limits marks limits' marks' : List ℕ) → Running s limits marks → s.steps < allowed → s.next ≡ Some x → s'.steps ≡ s.steps → Stepped g limit s' x marks r limits' marks' → Running r limits' marks'
  running_step s s' r x limits marks limits' marks' w h i k z =
      let f : ℕ = allowed - r.steps in
      let e : allowed - s.steps ≡ suc f = omega (arith, z.steps) in
      let l = next_is g limit s limits marks w.state x i in
      let p = peel_step g limit f marks x (sym l.1) (unsettled_lowest_lt g limit marks (omega (arith, l.0, l.1))) in
      record {
        state = z.state;
        steps = omega (
          arith,
          w.steps,
          z.steps,
          ap (λ (k : ℕ). length (removals g limit k marks)) e,
          p.0,
          ap (λ m. length (removals g limit f m)) z.marks_are,
        );
        marks_are = w.marks_are ∙ ap (λ (k : ℕ). peel g limit k marks) e ∙ p.1 ∙ ap (peel g limit f) (sym z.marks_are);
      }

  pub running_settled : (s : State) (limits marks : List ℕ) → Running s limits marks → s.next ≡ None → Ran g limit allowed marks₀ s limits marks
  running_settled s limits marks w e =
      let p = peel_settled g limit (allowed - s.steps) marks (settled_lowest g limit marks (omega (arith, next_none g limit s limits marks w.state e))) in
      record { steps = omega (arith, w.steps, p.0); marks_are = sym (w.marks_are ∙ p.1); state = w.state }

  pub running_spent : (s : State) (limits marks : List ℕ) → Running s limits marks → allowed ≤ s.steps → Ran g limit allowed marks₀ s limits marks
  running_spent s limits marks w h =
      let e : allowed - s.steps ≡ 0 = omega arith in
      let p = peel_spent g limit marks in
      record {
        steps = omega (arith, w.steps, p.0, ap (λ (k : ℕ). length (removals g limit k marks)) e);
        marks_are = sym (w.marks_are ∙ ap (λ (k : ℕ). peel g limit k marks) e ∙ p.1);
        state = w.state;
      }
