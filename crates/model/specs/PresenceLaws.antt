-- Laws of presence: document 02, 2.4.
use Rattle.std.specs.Prelude.{◌≡◌, ◌↔◌, Bool, false, ◌&&◌, List, ℕ, ◌≤◌, ◌<◌, T}
use Rattle.model.specs.declared.Head.{Head}
use Rattle.model.specs.Graph.{Graph, nodes, degree, Largest, marked, present, counting, raised, short, level}
use Rattle.model.specs.Layout.{mark_places}
use Rattle.model.specs.Calls.{query_marks}

-- Document 02, 2.4: whoever is off or out falls short of every limit, 0 included, and is in no cover
pub record PresenceLaws : Type 0 where
  -- whoever is marked and not here falls short, whatever the limits; for who is here nothing changes
  pub falls_short : (g : Graph) (here : ℕ → Bool) (limit : ℕ → ℕ) (s : List ℕ) (x : ℕ) → here x ≡ false → T (marked s x) →
      T (short g (raised (nodes g) here limit) s x)
  pub as_before : (g : Graph) (here : ℕ → Bool) (limit : ℕ → ℕ) (s : List ℕ) (x : ℕ) → T (here x) →
      short g (raised (nodes g) here limit) s x ≡ short g limit s x
  -- the largest set under these limits is the largest of those who are here under the plain ones
  pub largest : (g : Graph) (here : ℕ → Bool) (limit : ℕ → ℕ) (start s : ℕ → Bool) →
      Largest g (raised (nodes g) here limit) start s ↔ Largest g limit (λ x. start x && here x) s
  -- of the pairs that count it is in no pair, and has level 0 in every row from 1
  pub no_pair : (g : Graph) (here s : ℕ → Bool) (x : ℕ) → here x ≡ false → x < nodes g → degree (counting g here) s x ≡ 0
  pub no_level : (g : Graph) (here : ℕ → Bool) (α x : ℕ) → here x ≡ false → 1 ≤ α → x < nodes g → level (counting g here) α x ≡ 0
  -- where everybody is here all pairs count
  pub all_count : (g : Graph) (here : ℕ → Bool) → ((x : ℕ) → x < nodes g → T (here x)) → (u v : ℕ) → u < g.operators → v < g.rides →
      (counting g here).cleared u v ≡ g.cleared u v
  -- a query marks nobody who is off or out, whatever index came in
  pub query : (h : Head) (index presence : List ℕ) (α β x : ℕ) → present presence x ≡ false → x < mark_places h →
      marked (query_marks h index presence α β) x ≡ false
