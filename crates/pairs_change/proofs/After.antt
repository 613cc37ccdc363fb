-- The pair arrays after a taken message hold the pairs with the message's pair added or removed, in ascending order.
use mathlib.Core.Path.{◌≡◌, refl, sym, ap, ap₂, ◌∙◌, subst}
use mathlib.Core.Bool.{Bool, true, false, ◌&&◌}
use mathlib.Core.List.{List, map}
use Prim.Native.Nat.{ℕ, ◌+◌, ◌-◌, ◌*◌, ◌/◌, ◌%◌, ◌≤◌, ◌<◌}
use native.Mathlib.Omega.{arith}
use native.Mathlib.Decide.{dec_lt, ℕ_discrete}
use lib.Dec.{T, eqb, eqb→eq, eqb_refl}
use lib.ListN.{length, get_or, drop, length-map}
use Rattle.model.specs.declared.Head.{Head}
use Rattle.model.specs.Graph.{Graph}
use Rattle.model.specs.Layout.{pair_places, listed}
use Rattle.model.specs.Contents.{pair_numbers}
use Rattle.model.proofs.Count.{test_true, test_false, and_left, and_right, and_both}
use Rattle.model.proofs.Pairs.{Pairs, pairs_fit, pairs_count, pairs_operators, pairs_rides}
use Rattle.arrays.specs.Filled.{filled}
use Rattle.pairs.specs.Accepted.{AcceptedPairs}
use Rattle.pairs.specs.Place.{FirstPlace}
use Rattle.pairs_shift.specs.Shift.{Inserted, Removed}
use Rattle.pairs_change.specs.Change.{with_pair, graph_with, Listing, Arrays}
use Rattle.pairs.proofs.Place.{number, held, room, listed_first, unlisted_behind}
use Rattle.pairs_shift.proofs.Words.{drop_more, padded_done}

-- a place below, at or above another
by_place {ℓ} : {C : Type ℓ} (k p : ℕ) → (k < p → C) → (k ≡ p → C) → (p < k → C) → C
by_place k p f g h =
    elim (dec_lt k p) [ yes a ↦ f a | no a ↦ elim (ℕ_discrete k p) [ yes e ↦ g e | no n ↦ h (omega arith) ] ]

-- ---- the pair of a message, added or removed

module _ (c : ℕ → ℕ → Bool) (u v : ℕ) (to : Bool) where
  with_pair_same : with_pair c u v to u v ≡ to
  with_pair_same = rw (test_true (eqb u u && eqb v v) (and_both (eqb u u) (eqb v v) (eqb_refl u) (eqb_refl v)), with_pair)

  with_pair_other : (a d : ℕ) → (a ≡ u → d ≡ v → ⊥) → with_pair c u v to a d ≡ c a d
  with_pair_other a d n =
      rw (test_false (eqb a u && eqb d v) (λ t. n (eqb→eq a u (and_left (eqb a u) (eqb d v) t)) (eqb→eq d v (and_right (eqb a u) (eqb d v) t))), with_pair)

-- a pair is the given one, or another
by_pair {ℓ} : {C : Type ℓ} (a d u v : ℕ) → (a ≡ u → d ≡ v → C) → ((a ≡ u → d ≡ v → ⊥) → C) → C
by_pair a d u v f g =
    elim (ℕ_discrete a u) [
      | yes p ↦ elim (ℕ_discrete d v) [ yes q ↦ f p q | no q ↦ g (λ _ e. q e) ]
      | no p ↦ g (λ e _. p e)
    ]

module _ (c : ℕ → ℕ → Bool) (u v : ℕ) where
  added_keeps : (a d : ℕ) → T (c a d) → T (with_pair c u v true a d)
  added_keeps a d t =
      by_pair a d u v
      (λ e f. subst T (sym (ap₂ (with_pair c u v true) e f ∙ with_pair_same c u v true)) tt)
      (λ n. subst T (sym (with_pair_other c u v true a d n)) t)

  -- a pair that is already so changes nothing
  same_pair : (to : Bool) → c u v ≡ to → (a d : ℕ) → with_pair c u v to a d ≡ c a d
  same_pair to e a d =
      by_pair a d u v
      (λ p q. ap₂ (with_pair c u v to) p q ∙ with_pair_same c u v to ∙ sym e ∙ sym (ap₂ c p q))
      (λ n. with_pair_other c u v to a d n)

module _ (h : Head) (operators rides : List ℕ) (ok : AcceptedPairs h operators rides) (u v : ℕ) where
  abbrev listed_now : ℕ → ℕ → Bool
  listed_now = listed h.pairs operators rides

  abbrev number_of : ℕ → ℕ
  number_of i = number h.rides operators rides i

  -- ---- the pair is listed and granted, or not listed and withdrawn

  pub pairs_same : (to : Bool) → listed_now u v ≡ to → Pairs (graph_with h operators rides u v to) h.pairs operators rides
  pairs_same to e =
      let ps = held h operators rides ok in
      record {
        operator = ps.operator;
        ride = ps.ride;
        ascending = ps.ascending;
        holds = λ i l. subst T (sym (same_pair listed_now u v to e (get_or operators i 0) (get_or rides i 0))) (ps.holds i l);
        found = λ a d k l t. ps.found a d k l (subst T (same_pair listed_now u v to e a d) t);
      }

  module _ (in_operators : u < h.operators) (in_rides : v < h.rides) (p : ℕ) (first : FirstPlace h operators rides u v p) (operators' rides' : List ℕ) where
    abbrev number' : ℕ → ℕ
    number' i = number h.rides operators' rides' i

    -- ---- a grant of a pair that is not listed

    module _ (out : T (listed_now u v) → ⊥) (o : Inserted p h.pairs u operators operators') (r : Inserted p h.pairs v rides rides') where
      below' : (k : ℕ) → k < p → number' k ≡ number_of k
      below' k l = ap₂ (λ (x y : ℕ). x * h.rides + y) (o.below k l) (r.below k l)

      here' : (k : ℕ) → k ≡ p → number' k ≡ u * h.rides + v
      here' k e = ap number' e ∙ ap₂ (λ (x y : ℕ). x * h.rides + y) o.here r.here

      above' : (k : ℕ) → p < k → k ≤ h.pairs → number' k ≡ number_of (k - 1)
      above' k l b = ap₂ (λ (x y : ℕ). x * h.rides + y) (o.above k l b) (r.above k l b)

      pub pairs_more : Pairs (graph_with h operators rides u v true) (h.pairs + 1) operators' rides'
      pairs_more =
          let ps = held h operators rides ok in
          let w = first.within in
          let to = with_pair listed_now u v true in
          record {
            operator = λ k l. by_place k p
                (λ a. omega (arith, o.below k a, ps.operator k (omega arith)))
                (λ e. omega (arith, ap (λ (z : ℕ). get_or operators' z 0) e, o.here))
                (λ a. omega (arith, o.above k a (omega arith), ps.operator (k - 1) (omega arith)));
            ride = λ k l. by_place k p
                (λ a. omega (arith, r.below k a, ps.ride k (omega arith)))
                (λ e. omega (arith, ap (λ (z : ℕ). get_or rides' z 0) e, r.here))
                (λ a. omega (arith, r.above k a (omega arith), ps.ride (k - 1) (omega arith)));
            ascending = λ i j l b. by_place i p
                (λ a. by_place j p
                (λ d. omega (arith, below' i a, below' j d, ps.ascending i j l (omega arith)))
                (λ d. omega (arith, below' i a, here' j d, first.before i a))
                (λ d. omega (arith, below' i a, above' j d (omega arith), first.before i a, first.behind (j - 1) (omega arith) (omega arith))))
                (λ a. omega (arith, here' i a, above' j (omega arith) (omega arith), unlisted_behind h operators rides ok u v p first in_rides out (j - 1) (omega arith) (omega arith)))
                (λ a. omega (arith, above' i a (omega arith), above' j (omega arith) (omega arith), ps.ascending (i - 1) (j - 1) (omega arith) (omega arith)));
            holds = λ k l. by_place k p
                (λ a. subst T (ap₂ to (sym (o.below k a)) (sym (r.below k a))) (added_keeps listed_now u v (get_or operators k 0) (get_or rides k 0) (ps.holds k (omega arith))))
                (λ e. subst T (sym (with_pair_same listed_now u v true) ∙ ap₂ to (sym (ap (λ (z : ℕ). get_or operators' z 0) e ∙ o.here)) (sym (ap (λ (z : ℕ). get_or rides' z 0) e ∙ r.here))) tt)
                (λ a. subst T (ap₂ to (sym (o.above k a (omega arith))) (sym (r.above k a (omega arith)))) (added_keeps listed_now u v (get_or operators (k - 1) 0) (get_or rides (k - 1) 0) (ps.holds (k - 1) (omega arith))));
            found = λ a d k l t. by_pair a d u v
                (λ e f. (p, omega arith, o.here ∙ sym e, r.here ∙ sym f))
                (λ n. let i = ps.found a d k l (subst T (with_pair_other listed_now u v true a d n) t) in
                let j : ℕ = i.0 in
                let b : j < h.pairs = i.1 in
                elim (dec_lt j p) [
                  | yes q ↦ (j, omega arith, o.below j q ∙ i.2, r.below j q ∙ i.3)
                  | no q ↦ (let z : j + 1 - 1 ≡ j = omega arith in
                      (j + 1, omega arith, o.above (j + 1) (omega arith) (omega arith) ∙ ap (λ (x : ℕ). get_or operators x 0) z ∙ i.2, r.above (j + 1) (omega arith) (omega arith) ∙ ap (λ (x : ℕ). get_or rides x 0) z ∙ i.3))
                ]);
          }

    -- ---- a withdrawal of a listed pair

    module _ (in_List : T (listed_now u v)) (o : Removed p h.pairs operators operators') (r : Removed p h.pairs rides rides') where
      lower : (k : ℕ) → k < p → number' k ≡ number_of k
      lower k l = ap₂ (λ (x y : ℕ). x * h.rides + y) (o.below k l) (r.below k l)

      upper : (k : ℕ) → p ≤ k → k + 1 < h.pairs → number' k ≡ number_of (k + 1)
      upper k l b = ap₂ (λ (x y : ℕ). x * h.rides + y) (o.above k l b) (r.above k l b)

      -- no other place has the pair
      other : (k : ℕ) → k < h.pairs → (k ≡ p → ⊥) → get_or operators k 0 ≡ u → get_or rides k 0 ≡ v → ⊥
      other k b n e f =
          let at = listed_first h operators rides ok u v p first in_List in
          let q : number_of k ≡ number_of p = ap₂ (λ (x y : ℕ). x * h.rides + y) (e ∙ sym at.1) (f ∙ sym at.2) in
          elim (dec_lt k p) [
            | yes l ↦ omega (arith, (held h operators rides ok).ascending k p l at.0)
            | no l ↦ omega (arith, (held h operators rides ok).ascending p k (omega arith) b)
          ]

      pub pairs_less : Pairs (graph_with h operators rides u v false) (h.pairs - 1) operators' rides'
      pairs_less =
          let ps = held h operators rides ok in
          let at = listed_first h operators rides ok u v p first in_List in
          let to = with_pair listed_now u v false in
          let keeps : (k : ℕ) → k < h.pairs → (k ≡ p → ⊥) → T (to (get_or operators k 0) (get_or rides k 0)) = λ k b n. subst T (sym (with_pair_other listed_now u v false (get_or operators k 0) (get_or rides k 0) (other k b n))) (ps.holds k b) in
          record {
            operator = λ k l. elim (dec_lt k p) [ yes a ↦ omega (arith, o.below k a, ps.operator k (omega arith)) | no a ↦ omega (arith, o.above k (omega arith) (omega arith), ps.operator (k + 1) (omega arith)) ];
            ride = λ k l. elim (dec_lt k p) [ yes a ↦ omega (arith, r.below k a, ps.ride k (omega arith)) | no a ↦ omega (arith, r.above k (omega arith) (omega arith), ps.ride (k + 1) (omega arith)) ];
            ascending = λ i j l b. elim (dec_lt i p) [
              | yes a ↦
                  elim (dec_lt j p) [
                    | yes d ↦ omega (arith, lower i a, lower j d, ps.ascending i j l (omega arith))
                    | no d ↦ omega (arith, lower i a, upper j (omega arith) (omega arith), ps.ascending i (j + 1) (omega arith) (omega arith))
                  ]
              | no a ↦ omega (arith, upper i (omega arith) (omega arith), upper j (omega arith) (omega arith), ps.ascending (i + 1) (j + 1) (omega arith) (omega arith))
            ];
            holds = λ k l. elim (dec_lt k p) [
              | yes a ↦ subst T (ap₂ to (sym (o.below k a)) (sym (r.below k a))) (keeps k (omega arith) (omega arith))
              | no a ↦ subst T (ap₂ to (sym (o.above k (omega arith) (omega arith))) (sym (r.above k (omega arith) (omega arith)))) (keeps (k + 1) (omega arith) (omega arith))
            ];
            found = λ a d k l t. by_pair a d u v
                (λ e f. absurd (subst T (ap₂ to e f ∙ with_pair_same listed_now u v false) t))
                (λ n. let i = ps.found a d k l (subst T (with_pair_other listed_now u v false a d n) t) in
                let j : ℕ = i.0 in
                let b : j < h.pairs = i.1 in
                by_place j p
                (λ q. (j, omega (arith, at.0), o.below j q ∙ i.2, r.below j q ∙ i.3))
                (λ q. absurd (n (sym i.2 ∙ ap (λ (z : ℕ). get_or operators z 0) q ∙ at.1) (sym i.3 ∙ ap (λ (z : ℕ). get_or rides z 0) q ∙ at.2)))
                (λ q. let z : j - 1 + 1 ≡ j = omega arith in
                (j - 1, omega arith, o.above (j - 1) (omega arith) (omega arith) ∙ ap (λ (x : ℕ). get_or operators x 0) z ∙ i.2, r.above (j - 1) (omega arith) (omega arith) ∙ ap (λ (x : ℕ). get_or rides x 0) z ∙ i.3)));
          }

-- ---- the words, and those past the places of the pairs

module _ (h : Head) (operators rides : List ℕ) (g : Graph) (n : ℕ) (operators' rides' : List ℕ) where
  listing : Pairs g n operators' rides' → n ≤ length operators' → n ≤ length rides' → g.rides ≡ h.rides → drop (pair_places h) operators' ≡ drop (pair_places h) operators → drop (pair_places h) rides' ≡ drop (pair_places h) rides → Listing h g operators rides n operators' rides'
  listing ps b c e o r =
      record {
        pairs = pairs_count g n operators' rides' ps;
        operator_words = pairs_operators g n operators' rides' ps b ∙ ap (λ (m : ℕ). map (λ k. k / m) (pair_numbers g)) e;
        ride_words = pairs_rides g n operators' rides' ps c ∙ ap (λ (m : ℕ). map (λ k. k % m) (pair_numbers g)) e;
        operator_rest = o;
        ride_rest = r;
      }

module _ (h : Head) (operators rides : List ℕ) (ok : AcceptedPairs h operators rides) (u v : ℕ) where
  full : h.pairs ≤ pair_places h
  full = pairs_fit h operators rides (listed h.pairs operators rides) (held h operators rides ok)

  pub listing_same : (to : Bool) → listed h.pairs operators rides u v ≡ to → Listing h (graph_with h operators rides u v to) operators rides h.pairs operators rides
  listing_same to e =
      listing h operators rides (graph_with h operators rides u v to) h.pairs operators rides (pairs_same h operators rides ok u v to e) ok.operators_long ok.rides_long refl refl refl

  module _ (in_operators : u < h.operators) (in_rides : v < h.rides) (p : ℕ) (first : FirstPlace h operators rides u v p) (operators' rides' : List ℕ) where
    pub listing_more : (T (listed h.pairs operators rides u v) → ⊥) → Inserted p h.pairs u operators operators' → Inserted p h.pairs v rides rides' → h.pairs + 1 ≤ length operators' → h.pairs + 1 ≤ length rides' → Listing h (graph_with h operators rides u v true) operators rides (h.pairs + 1) operators' rides'
    listing_more out o r b c =
        let fits = room h operators rides ok u v in_operators in_rides out in
        listing h operators rides (graph_with h operators rides u v true) (h.pairs + 1) operators' rides' (pairs_more h operators rides ok u v in_operators in_rides p first operators' rides' out o r) b c refl
        (drop_more operators' operators (h.pairs + 1) (pair_places h) (omega arith) o.rest)
        (drop_more rides' rides (h.pairs + 1) (pair_places h) (omega arith) r.rest)

    pub listing_less : T (listed h.pairs operators rides u v) → Removed p h.pairs operators operators' → Removed p h.pairs rides rides' → h.pairs - 1 ≤ length operators' → h.pairs - 1 ≤ length rides' → Listing h (graph_with h operators rides u v false) operators rides (h.pairs - 1) operators' rides'
    listing_less in_List o r b c =
        listing h operators rides (graph_with h operators rides u v false) (h.pairs - 1) operators' rides' (pairs_less h operators rides ok u v in_operators in_rides p first operators' rides' in_List o r) b c refl
        (drop_more operators' operators h.pairs (pair_places h) full o.rest)
        (drop_more rides' rides h.pairs (pair_places h) full r.rest)

-- ---- with zeros behind them

module _ (h : Head) (g : Graph) (operators rides : List ℕ) (n : ℕ) (operators' rides' : List ℕ) (s : Listing h g operators rides n operators' rides') (fits : n ≤ pair_places h) where
  pub tails_after : (operators'' rides'' : List ℕ) → operators'' ≡ filled n (pair_places h) 0 operators' → rides'' ≡ filled n (pair_places h) 0 rides' → Arrays h g operators rides n operators'' rides''
  tails_after operators'' rides'' d e =
      let words : (ℕ → ℕ) → List ℕ = λ f. map f (pair_numbers g) in
      record {
        pairs = s.pairs;
        operator_words = padded_done (words (λ k. k / h.rides)) operators operators' operators'' n (pair_places h) s.operator_words (s.pairs ∙ sym (length-map (pair_numbers g) (λ k. k / h.rides))) fits s.operator_rest d;
        ride_words = padded_done (words (λ k. k % h.rides)) rides rides' rides'' n (pair_places h) s.ride_words (s.pairs ∙ sym (length-map (pair_numbers g) (λ k. k % h.rides))) fits s.ride_rest e;
      }
