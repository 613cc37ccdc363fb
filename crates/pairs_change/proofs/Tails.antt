-- The pair arrays with their tails zeroed list the same pairs.
use mathlib.Core.Path.{◌≡◌, sym, ap₂, ◌∙◌}
use mathlib.Core.List.{List, ◌++◌, map}
use Prim.Native.Nat.{ℕ, ◌-◌, ◌/◌, ◌%◌, ◌≤◌}
use lib.ListN.{length, take, replicate, length-map}
use Rattle.model.specs.declared.Head.{Head}
use Rattle.model.specs.Graph.{Graph}
use Rattle.model.specs.Layout.{pair_places, over, listed, graph}
use Rattle.model.specs.Contents.{pair_numbers, padded}
use Rattle.model.proofs.Pairs.{pairs_fit, pairs_count, pairs_operators, pairs_rides}
use Rattle.arrays.specs.Filled.{filled}
use Rattle.pairs.specs.Accepted.{AcceptedPairs}
use Rattle.pairs.proofs.Place.{held}
use Rattle.pairs_change.specs.Change.{Arrays}

module _ (h : Head) (operators rides : List ℕ) (ok : AcceptedPairs h operators rides) where
  abbrev g : Graph
  g = graph h operators rides

  -- the pairs fit
  pub tails_fit : h.pairs ≤ pair_places h
  tails_fit = pairs_fit h operators rides (listed h.pairs operators rides) (held h operators rides ok)

  count : h.pairs ≡ length (pair_numbers g)
  count = pairs_count g h.pairs operators rides (held h operators rides ok)

  tail_zeroed : (f : ℕ → ℕ) (array : List ℕ) → take h.pairs array ≡ map f (pair_numbers g) → filled h.pairs (pair_places h) 0 array ≡ over (padded (pair_places h) (map f (pair_numbers g))) array
  tail_zeroed f array e =
      ap₂ (λ (x : List ℕ) (k : ℕ). over (x ++ replicate (pair_places h - k) 0) array) e (count ∙ sym (length-map (pair_numbers g) f))

  pub tails_zeroed : (operators' rides' : List ℕ) → operators' ≡ filled h.pairs (pair_places h) 0 operators → rides' ≡ filled h.pairs (pair_places h) 0 rides → Arrays h g operators rides h.pairs operators' rides'
  tails_zeroed operators' rides' o r =
      record {
        pairs = count;
        operator_words = o ∙ tail_zeroed (λ k. k / h.rides) operators (pairs_operators g h.pairs operators rides (held h operators rides ok) ok.operators_long);
        ride_words = r ∙ tail_zeroed (λ k. k % h.rides) rides (pairs_rides g h.pairs operators rides (held h operators rides ok) ok.rides_long);
      }
