-- The place of a pair in a pair table: found by halving, and where it shows that the pair is listed.
use mathlib.Core.Path.{◌≡◌, sym, ap, ap₂, ◌∙◌, subst₂}
use mathlib.Core.Bool.{true, ◌&&◌}
use mathlib.Core.List.{List}
use Prim.Native.Nat.{ℕ, ◌+◌, ◌*◌, ◌/◌, ◌%◌, ◌≤◌, ◌<◌}
use native.Mathlib.Omega.{arith}
use native.Mathlib.Decide.{dec_lt}
use native.Mathlib.Nat.{mul-le-mul_right}
use lib.Dec.{T, ltb, eqb, ltb→lt, lt→ltb, eqb→eq}
use lib.Arith.{digits_lt, digits_div, digits_mod}
use lib.ListN.{get_or}
use Rattle.model.specs.declared.Head.{Head}
use Rattle.model.specs.Graph.{Graph}
use Rattle.model.specs.Layout.{pair_places, pair_at, listed, graph}
use Rattle.model.specs.Contents.{pair_numbers}
use Rattle.model.proofs.Count.{test_ext, and_left, and_right, and_both, count_le, count_less}
use Rattle.model.proofs.Pairs.{Pairs, pair_stands, listed_place, place_listed, table_pairs, pairs_count, length_passing, cleared_number}
use Rattle.pairs.specs.Accepted.{AcceptedPairs}
use Rattle.pairs.specs.Place.{FirstPlace}

-- the number of the pair at place i
abbrev pub number : ℕ → List ℕ → List ℕ → ℕ → ℕ
number m operators rides i = get_or operators i 0 * m + get_or rides i 0

-- a product of two 16-bit numbers
pub product_fits : (a b : ℕ) → a < 65536 → b < 65536 → a * b < 4294967296
product_fits a b h l = omega (arith, mul-le-mul_right b (let k : a ≤ 65535 = omega arith in k))

-- a pair table has at most 12,000 places
pub product_small : (n m : ℕ) → n ≤ 200 → m ≤ 60 → n * m ≤ 12000
product_small n m h l = omega (arith, mul-le-mul_right m h)

-- the number of a pair in range is small
pub number_small : (n m u v : ℕ) → n ≤ 200 → m ≤ 60 → u < n → v < m → u * m + v < 12000
number_small n m u v h l k b = omega (arith, digits_lt k b, product_small n m h l)

module _ (h : Head) (operators rides : List ℕ) (ok : AcceptedPairs h operators rides) where
  abbrev number_of : ℕ → ℕ
  number_of i = number h.rides operators rides i

  pub held : Pairs (graph h operators rides) h.pairs operators rides
  held = table_pairs h operators rides ok.ordered

  pub number_fits : (i : ℕ) → i < h.pairs → number_of i < 12000
  number_fits i l =
      number_small h.operators h.rides (get_or operators i 0) (get_or rides i 0) ok.few_operators ok.few_rides (held.operator i l) (held.ride i l)

  -- where the pair in the middle is before the one looked for, so are those up to it
  pub half_before : (middle x : ℕ) → middle < h.pairs → number_of middle < x → (i : ℕ) → i < middle + 1 → number_of i < x
  half_before middle x b l i k =
      elim (dec_lt i middle) [
        | yes d ↦ omega (arith, held.ascending i middle d b)
        | no d ↦ (let e : i ≡ middle = omega arith in omega (arith, ap number_of e))
      ]

  -- where it is not, neither are those from it on
  pub half_behind : (middle x : ℕ) → x ≤ number_of middle → (i : ℕ) → middle ≤ i → i < h.pairs → x ≤ number_of i
  half_behind middle x l i k b =
      elim (dec_lt middle i) [
        | yes d ↦ omega (arith, held.ascending middle i d b)
        | no d ↦ (let e : i ≡ middle = omega arith in omega (arith, ap number_of e))
      ]

  -- a pair table that does not list a pair in range has room for it
  pub room : (u v : ℕ) → u < h.operators → v < h.rides → (T (listed h.pairs operators rides u v) → ⊥) → h.pairs < pair_places h
  unfolding pair_numbers
  room u v a b n =
      let g : Graph = graph h operators rides in
      let k : ℕ = pair_places h in
      omega (
        arith,
        pairs_count g h.pairs operators rides held,
        length_passing (cleared_number g) k,
        count_le (λ (x : ℕ). true) k,
        count_less (λ (x : ℕ). true) (cleared_number g) (u * h.rides + v) k (λ y l t. tt) (digits_lt a b) tt
            (λ t. n (subst₂ (λ (x y : ℕ). T (listed h.pairs operators rides x y)) (digits_div u b) (digits_mod u b) t)),
      )

  module _ (u v p : ℕ) (first : FirstPlace h operators rides u v p) where
    -- a listed pair stands at its first place
    pub listed_first : T (listed h.pairs operators rides u v) → (p < h.pairs) × (get_or operators p 0 ≡ u) × (get_or rides p 0 ≡ v)
    listed_first t =
        let w = listed_place h.pairs operators rides u v t in
        let i : ℕ = w.0 in
        let same : number_of i ≡ u * h.rides + v = ap₂ (λ (x y : ℕ). x * h.rides + y) w.2 w.3 in
        let l : i < h.pairs = w.1 in
        let not_before : p ≤ i = elim (dec_lt i p) [ yes d ↦ absurd (let z : ⊥ = omega (arith, first.before i d) in z) | no d ↦ omega arith ] in
        let e : i ≡ p = elim (dec_lt p i) [ yes d ↦ absurd (let z : ⊥ = omega (arith, first.behind p (omega arith) (omega arith), held.ascending p i d l) in z) | no d ↦ omega arith ] in
        (omega arith, ap (λ (k : ℕ). get_or operators k 0) (sym e) ∙ w.2, ap (λ (k : ℕ). get_or rides k 0) (sym e) ∙ w.3)

    pub stands_listed : (ltb p h.pairs && pair_at operators rides u v p) ≡ listed h.pairs operators rides u v
    stands_listed =
        test_ext (ltb p h.pairs && pair_at operators rides u v p) (listed h.pairs operators rides u v)
        (λ t. let s = and_right (ltb p h.pairs) (pair_at operators rides u v p) t in
        place_listed h.pairs operators rides u v p (ltb→lt p h.pairs (and_left (ltb p h.pairs) (pair_at operators rides u v p) t))
        (eqb→eq (get_or operators p 0) u (and_left (eqb (get_or operators p 0) u) (eqb (get_or rides p 0) v) s))
        (eqb→eq (get_or rides p 0) v (and_right (eqb (get_or operators p 0) u) (eqb (get_or rides p 0) v) s)))
        (λ t. let w = listed_first t in
        and_both (ltb p h.pairs) (pair_at operators rides u v p) (lt→ltb p h.pairs w.0) (pair_stands operators rides u v p w.1 w.2))

    -- the pairs from its first place on are behind a pair that is not listed
    pub unlisted_behind : v < h.rides → (T (listed h.pairs operators rides u v) → ⊥) → (i : ℕ) → p ≤ i → i < h.pairs → u * h.rides + v < number_of i
    unlisted_behind b n i l k =
        elim (dec_lt (u * h.rides + v) (number_of i)) [
          | yes d ↦ d
          | no d ↦
              absurd
              (let e : number_of i ≡ u * h.rides + v = omega (arith, first.behind i l k) in
              n (place_listed h.pairs operators rides u v i k
              (sym (digits_div (get_or operators i 0) (held.ride i k)) ∙ ap (λ (x : ℕ). x / h.rides) e ∙ digits_div u b)
              (sym (digits_mod (get_or operators i 0) (held.ride i k)) ∙ ap (λ (x : ℕ). x % h.rides) e ∙ digits_mod u b)))
        ]
