-- Inner contracts: a taken message adds its pair to the pair arrays, or removes it, where needed, and zeros stand behind the last pair.
use Rattle.std.specs.Prelude.{◌≡◌, Bool, true, false, ◌&&◌, List, map, ℕ, ◌/◌, ◌%◌, eqb, length, take, drop}
use Rattle.model.specs.declared.Head.{Head}
use Rattle.model.specs.Graph.{Graph}
use Rattle.model.specs.Layout.{pair_places, over, listed, sized}
use Rattle.model.specs.Contents.{pair_numbers, padded}

-- the clearances c with the pair (u, v) added (true) or removed (false)
abbrev pub with_pair : (ℕ → ℕ → Bool) → ℕ → ℕ → Bool → ℕ → ℕ → Bool
with_pair c u v to a d = elim (eqb a u && eqb d v) [ true ↦ to | false ↦ c a d ]

-- the clearance graph of a pair table with the pair (u, v) added or removed
abbrev pub graph_with : Head → List ℕ → List ℕ → ℕ → ℕ → Bool → Graph
graph_with h operators rides u v to = sized h (with_pair (listed h.pairs operators rides) u v to)

-- the first count words of the pair arrays are the clearances of g; past the places of the pairs the words are the old ones
pub record Listing (h : Head) (g : Graph) (operators rides : List ℕ) (count : ℕ) (operators' rides' : List ℕ) : Type 0 where
  pub pairs : count ≡ length (pair_numbers g)
  pub operator_words : take count operators' ≡ map (λ k. k / h.rides) (pair_numbers g)
  pub ride_words : take count rides' ≡ map (λ k. k % h.rides) (pair_numbers g)
  pub operator_rest : drop (pair_places h) operators' ≡ drop (pair_places h) operators
  pub ride_rest : drop (pair_places h) rides' ≡ drop (pair_places h) rides

-- the pair arrays list the clearances of g, zeros stand behind them, and their count is this; past their end the old words
pub record Arrays (h : Head) (g : Graph) (operators rides : List ℕ) (count : ℕ) (operators' rides' : List ℕ) : Type 0 where
  pub pairs : count ≡ length (pair_numbers g)
  pub operator_words : operators' ≡ over (padded (pair_places h) (map (λ k. k / h.rides) (pair_numbers g))) operators
  pub ride_words : rides' ≡ over (padded (pair_places h) (map (λ k. k % h.rides) (pair_numbers g))) rides
