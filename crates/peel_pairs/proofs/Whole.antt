-- The whole peel: from marks that came in, through the first state and a run of steps.
use mathlib.Core.Path.{◌≡◌, sym, ap, ap₂, ◌∙◌, subst}
use mathlib.Core.List.{List}
use Prim.Native.Nat.{ℕ, ◌<◌}
use native.Mathlib.Omega.{arith}
use lib.ListN.{length, get_or}
use Rattle.model.specs.declared.Head.{Head}
use Rattle.model.specs.declared.Peeled.{Peeled}
use Rattle.model.specs.Count.{bit}
use Rattle.model.specs.Graph.{Graph, settled}
use Rattle.model.specs.Layout.{mark_places}
use Rattle.model.specs.Calls.{peeled}
use Rattle.graph_tables.specs.Table.{Tables}
use Rattle.limits.specs.Limits.{byte_limit}
use Rattle.graph_degrees.specs.Degrees.{AllDegrees}
use Rattle.graph_drops.specs.Drop.{Held}
use Rattle.graph_drops.proofs.Start.{held_start}
use Rattle.peel_run.specs.declared.State.{State}
use Rattle.peel_run.specs.Steps.{Started, StateOf}
use Rattle.peel_run.proofs.Steps.{next_short}
use Rattle.peel_run.specs.Run.{Ran}
use Rattle.peel_pairs.specs.Peel.{Ready, Gives}

-- the first state is one of the peel
module _ (g : Graph) (h : Head) (d d' marks : List ℕ) (ready : Ready g h d d' marks) (rows columns : List ℕ) (t : Tables g rows columns) (limit : ℕ → ℕ) (all limits : List ℕ) (long : length all ≡ 260) (degrees : AllDegrees g all) (long' : length limits ≡ 260) (bytes : (x : ℕ) → x < mark_places h → get_or limits x 0 ≡ byte_limit limit marks x) where
  held : Held g limit h.operators h.rides all limits marks
  held =
      held_start g marks ready.within limit h.operators h.rides all limits ready.operators ready.rides ready.room long degrees long'
      (λ x l. bytes x (omega (arith, ready.operators, ready.rides)))

  pub first_state : (s : State) → Started h all limits s → StateOf g limit s limits marks
  first_state s o =
      record {
        held =
            subst (λ (n : ℕ). Held g limit n s.rides s.degrees limits marks) (sym o.operators)
            (subst (λ (c : ℕ). Held g limit h.operators c s.degrees limits marks) (sym o.rides)
            (subst (λ (z : List ℕ). Held g limit h.operators h.rides z limits marks) (sym o.degrees_are) held));
        next = next_short g limit t.by_ride.wide t.by_operator.wide h.operators h.rides all limits marks held s.next o.next;
      }

-- a run from the first state gives what the definition gives
pub peel_gives : (g : Graph) (limit : ℕ → ℕ) (allowed : ℕ) (came : List ℕ) (s : State) (limits left : List ℕ) → Ran g limit allowed came s limits left → (word : ℕ) → word ≡ bit (settled g limit left) → Gives (peeled g limit allowed came) (record { code = 0; settled = word; steps = s.steps }) left
unfolding peeled
peel_gives g limit allowed came s limits left run word e =
    record { answer = ap₂ outcome (e ∙ ap (λ m. bit (settled g limit m)) run.marks_are) run.steps; marks = run.marks_are }
  where
    outcome : ℕ → ℕ → Peeled
    outcome word steps = record { code = 0; settled = word; steps = steps }
