-- Inner contracts: the index after the turns of a message list, filled once, if a message was taken.
use Rattle.std.specs.Prelude.{Bool, true, false, List, ℕ, ◌+◌, eqb, get_or}
use Rattle.model.specs.Count.{some}
use Rattle.model.specs.Graph.{Graph, index_of}
use Rattle.model.specs.Layout.{over}

-- the message at place i was taken: its answer is 0
abbrev pub taken_at : List ℕ → ℕ → Bool
taken_at answers i = eqb (get_or answers i 0) 0

-- an index filled for a graph, if one of the first n answers is 0
unfoldable pub filled_index : ℕ → Graph → List ℕ → List ℕ → List ℕ
filled_index n g index answers =
    elim (some n (taken_at answers)) [ true ↦ over (index_of g) index | false ↦ index ]

-- an index after the turn at a place of n: filled so after the last
unfoldable pub index_turned : ℕ → ℕ → Graph → List ℕ → List ℕ → List ℕ
index_turned at n g index answers = elim (eqb (at + 1) n) [ true ↦ filled_index n g index answers | false ↦ index ]
