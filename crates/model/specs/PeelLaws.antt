-- Laws of peels: document 01, Peel, and demand 2 for peels.
use Rattle.std.specs.Prelude.{◌≡◌, ◌↔◌, Bool, ◌&&◌, not, List, [], ◌∷◌, ℕ, ◌+◌, ◌-◌, ◌≤◌, ◌<◌, T, length, set, drop}
use Rattle.model.specs.declared.Head.{Head}
use Rattle.model.specs.Count.{some}
use Rattle.model.specs.Graph.{Graph, nodes, Largest, limits, own_limits, marked, present, raised, short, settled, removals, peel}
use Rattle.model.specs.Layout.{counting_graph}
use Rattle.model.specs.Refusal.{peel_refusal}
use Rattle.model.specs.Calls.{PeelOutcome, board_peel}
use Rattle.model.specs.CoverLaws.{members, AllOnes}

-- x is the lowest-numbered node that falls short in s
pub record LowestShort (g : Graph) (limit : ℕ → ℕ) (s : List ℕ) (x : ℕ) : Type 0 where
  pub node : x < nodes g
  pub falls : T (short g limit s x)
  pub lowest : (y : ℕ) → y < x → T (short g limit s y) → ⊥

-- each node of the list, at its turn, is the lowest-numbered that falls short
abbrev pub Dropped : Graph → (ℕ → ℕ) → List ℕ → List ℕ → Type 0
Dropped g limit s [] = Unit
Dropped g limit s (x ∷ xs) = LowestShort g limit s x × Dropped g limit (set s x 0) xs

-- Peel, and that a largest set is the only one
pub record PeelLaws : Type 0 where
  -- one a step, only who falls short is cleared, the lowest-numbered first; at most the allowed steps are taken
  pub drops : (g : Graph) (limit : ℕ → ℕ) (f : ℕ) (s : List ℕ) → Dropped g limit s (removals g limit f s)
  pub allowed : (g : Graph) (limit : ℕ → ℕ) (f : ℕ) (s : List ℕ) → length (removals g limit f s) ≤ f
  -- as many steps as there are marked nodes are enough to settle
  pub settles : (g : Graph) (limit : ℕ → ℕ) (f : ℕ) (s : List ℕ) → members g s ≤ f → T (settled g limit (peel g limit f s))
  -- settled marks are the largest set inside the marks that came in
  pub largest : (g : Graph) (limit : ℕ → ℕ) (f : ℕ) (s : List ℕ) → T (settled g limit (peel g limit f s)) →
      Largest g limit (marked s) (marked (peel g limit f s))
  pub only : (g : Graph) (limit : ℕ → ℕ) (start s t : ℕ → Bool) → Largest g limit start s → Largest g limit start t → (x : ℕ) → x < nodes g → s x ≡ t x
  -- unsettled exactly if all allowed steps were taken and somebody still falls short
  pub unsettled : (g : Graph) (limit : ℕ → ℕ) (f : ℕ) (s : List ℕ) → T (not (settled g limit (peel g limit f s))) ↔
      ((length (removals g limit f s) ≡ f) × T (some (nodes g) (short g limit (peel g limit f s))))
  -- each step clears one mark; from all ones steps taken = operators + rides − members, whatever lies behind the nodes' marks
  pub steps : (g : Graph) (limit : ℕ → ℕ) (f : ℕ) (s : List ℕ) → members g (peel g limit f s) + length (removals g limit f s) ≡ members g s
  pub steps_from_all : (g : Graph) (limit : ℕ → ℕ) (f : ℕ) (s : List ℕ) → AllOnes g s → length (removals g limit f s) ≡ nodes g - members g (peel g limit f s)
  -- marks past the nodes stay
  pub tail : (g : Graph) (limit : ℕ → ℕ) (f : ℕ) (s : List ℕ) → drop (nodes g) (peel g limit f s) ≡ drop (nodes g) s

-- what a peel gives under a limit for each node, with so many steps allowed; start is the set of the marks that came in, of those who are here
pub record IsPeeled (g : Graph) (here : ℕ → Bool) (limit : ℕ → ℕ) (allowed : ℕ) (start : ℕ → Bool) (o : PeelOutcome) : Type 0 where
  pub code : o.answer.code ≡ 0
  -- settled, its marks are the largest set inside start under these limits, and no other set is
  pub largest : o.answer.settled ≡ 1 → Largest g limit start (marked o.marks)
  pub only : o.answer.settled ≡ 1 → (s : ℕ → Bool) → Largest g limit start s → (x : ℕ) → x < nodes g → s x ≡ marked o.marks x
  -- unsettled exactly if all allowed steps were taken and somebody still falls short; whoever is not here does
  pub unsettled : (o.answer.settled ≡ 0) ↔ ((o.answer.steps ≡ allowed) × T (some (nodes g) (short g (raised (nodes g) here limit) o.marks)))

-- Demand 2 for peels, and document 02, 2.7: of any peel that isn't refused, under α from 0, and each ride's own minimum, or β from 0
abbrev pub PeelIsLargest : Type 0
PeelIsLargest =
    (h : Head) (operators rides presence minimums marks : List ℕ) (α β allowed : ℕ) →
    peel_refusal h operators rides presence minimums marks ≡ 0 →
    IsPeeled (counting_graph h operators rides presence) (present presence) (own_limits h.operators minimums α β) allowed
    (λ x. marked marks x && present presence x) (board_peel h operators rides presence minimums marks α β allowed)

-- what a peel from all ones gives, with so many steps allowed: settled, its marks are the largest set of those who are here under a limit for each
-- node; one step was taken for each node that is out; and as many steps as there are nodes are enough to settle
pub record IsPeeledCover (g : Graph) (here : ℕ → Bool) (limit : ℕ → ℕ) (allowed : ℕ) (o : PeelOutcome) : Type 0 where
  pub code : o.answer.code ≡ 0
  pub largest : o.answer.settled ≡ 1 → Largest g limit here (marked o.marks)
  pub steps : o.answer.steps ≡ nodes g - members g o.marks
  pub settles : nodes g ≤ allowed → o.answer.settled ≡ 1

-- the same under the limits (α, β): settled, its marks are the (α, β)-core of those who are here
abbrev pub IsPeeledCore : Graph → (ℕ → Bool) → ℕ → ℕ → ℕ → PeelOutcome → Type 0
IsPeeledCore g here α β allowed o = IsPeeledCover g here (limits g.operators α β) allowed o
