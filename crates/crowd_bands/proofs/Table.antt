-- The numbers of a crowd table by a list of its bands, and the band that a guest count falls in.
use mathlib.Core.Path.{◌≡◌, refl, sym, ap, ap₂, ◌∙◌, subst}
use mathlib.Core.Bool.{Bool, ◌||◌}
use mathlib.Core.List.{List}
use Prim.Native.Nat.{ℕ, zero, suc, ◌+◌, ◌-◌, ◌≤◌, ◌<◌}
use native.Mathlib.Numerals.{add-one}
use native.Mathlib.Omega.{arith}
use native.Mathlib.Decide.{dec_le, dec_lt}
use lib.Dec.{T, ltb, leb, eqb, ltb→lt, leb→le, le→leb, eqb→eq}
use borrow.Author.Tests.{eq-eqb}
use Rattle.model.specs.declared.Band.{Band}
use Rattle.model.specs.declared.Bands.{Bands}
use Rattle.model.specs.Count.{count, some, lowest}
use Rattle.model.specs.Crowd.{most_guests, band, falls_in, bands_holding, refused_16, refused_17, refused_18}
use Rattle.model.specs.CrowdLaws.{Formed}
use Rattle.model.proofs.Count.{by_test, and_left, and_right, and_both, or_left, or_right, or_cases, count_none, count_more, some_holds, some_witness, lowest_ext}
use Rattle.model.proofs.Chain.{enough}
use Rattle.model.proofs.CrowdTable.{passes_formed, overlap_refused, refused_overlap}
use Rattle.crowd_bands.specs.Bands.{at, first_of, last_of, malformed_at, share, shares_earlier, widths, falls_at}
use Rattle.crowd_bands.proofs.Sums.{sum, sum_zero, sum_more, sum_ones, sum_less, count_between}

pub widths_none : (bands : List Band) → widths bands 0 ≡ 0
unfolding widths
widths_none bands = refl

pub widths_more : (bands : List Band) (k : ℕ) → widths bands (k + 1) ≡ widths bands k + (suc (last_of bands k) - first_of bands k)
unfolding widths
widths_more bands k = ap (widths bands) (add-one k)

module _ (t : Bands) (bands : List Band) (w : (i : ℕ) → i < t.count → at bands i ≡ band t i) (few : t.count ≤ 8) where
  first_is : (i : ℕ) → i < t.count → first_of bands i ≡ (band t i).first
  first_is i h = ap (λ (b : Band). b.first) (w i h)

  last_is : (i : ℕ) → i < t.count → last_of bands i ≡ (band t i).last
  last_is i h = ap (λ (b : Band). b.last) (w i h)

  -- ---- 16

  pub malformed_refused : (guests : ℕ) → T (some t.count (malformed_at bands)) → T (refused_16 t guests)
  malformed_refused guests m =
      let k = some_witness (malformed_at bands) t.count m in
      let i : ℕ = k.0 in
      let first : ℕ = first_of bands i in
      let last : ℕ = last_of bands i in
      let ef = first_is i (omega (arith, k.1)) in
      let el = last_is i (omega (arith, k.1)) in
      by_test (refused_16 t guests) (λ r. r)
      (λ n.
      let f = (passes_formed t guests n).0 in
      absurd (or_cases (ltb last first || ltb most_guests first) (ltb most_guests last) k.2
      (λ s. or_cases (ltb last first) (ltb most_guests first) s
      (λ q. let z : ⊥ = omega (arith, ltb→lt last first q, ef, el, f.ordered i k.1) in z)
      (λ q. let z : ⊥ = omega (arith, ltb→lt most_guests first q, ef, f.ordered i k.1, f.in_range i k.1) in z))
      (λ q. let z : ⊥ = omega (arith, ltb→lt most_guests last q, el, f.in_range i k.1) in z)))

  pub formed : 1 ≤ t.count → (T (some t.count (malformed_at bands)) → ⊥) → Formed t
  formed least n =
      record {
        least = least;
        most = few;
        ordered = λ i h. omega (arith, first_is i (omega arith), last_is i (omega arith), enough (last_of bands i) (first_of bands i) (λ s. n (some_holds (malformed_at bands) t.count i h (or_left (reversed i || ltb most_guests (first_of bands i)) (above i) (or_left (reversed i) (ltb most_guests (first_of bands i)) s)))));
        in_range = λ i h. omega (arith, last_is i (omega arith), enough most_guests (last_of bands i) (λ s. n (some_holds (malformed_at bands) t.count i h (or_right (reversed i || ltb most_guests (first_of bands i)) (above i) s))));
      }
    where
      reversed : ℕ → Bool
      reversed i = ltb (last_of bands i) (first_of bands i)

      above : ℕ → Bool
      above i = ltb most_guests (last_of bands i)

  module _ (f : Formed t) where
    pub bands_ordered : (i : ℕ) → i < t.count → first_of bands i ≤ last_of bands i
    bands_ordered i h = omega (arith, first_is i (omega arith), last_is i (omega arith), f.ordered i h)

    -- ---- 17

    -- two bands of which each starts no later than the other ends share the larger of their first counts
    shared : (i j : ℕ) → i < t.count → j < t.count → T (share bands i j) → (c : ℕ) × (c ≤ most_guests) × ((band t i).first ≤ c) × (c ≤ (band t i).last) × ((band t j).first ≤ c) × (c ≤ (band t j).last)
    shared i j h k s =
        let a : first_of bands i ≤ last_of bands j = leb→le (first_of bands i) (last_of bands j) (and_left (leb (first_of bands i) (last_of bands j)) (leb (first_of bands j) (last_of bands i)) s) in
        let b : first_of bands j ≤ last_of bands i = leb→le (first_of bands j) (last_of bands i) (and_right (leb (first_of bands i) (last_of bands j)) (leb (first_of bands j) (last_of bands i)) s) in
        let fi = first_is i (omega arith) in
        let li = last_is i (omega arith) in
        let fj = first_is j (omega arith) in
        let lj = last_is j (omega arith) in
        elim (dec_le (band t i).first (band t j).first) [
          | yes q ↦ ((band t j).first, omega (arith, f.ordered j k, f.in_range j k), q, omega (arith, b, fj, li), omega arith, f.ordered j k)
          | no q ↦ ((band t i).first, omega (arith, f.ordered i h, f.in_range i h), omega arith, f.ordered i h, omega arith, omega (arith, a, fi, lj))
        ]

    pub sharing_refused : T (some t.count (shares_earlier bands)) → T (refused_17 t)
    sharing_refused s =
        let k = some_witness (shares_earlier bands) t.count s in
        let i : ℕ = k.0 in
        let m = some_witness (share bands i) i k.2 in
        let j : ℕ = m.0 in
        let below : j < t.count = omega (arith, k.1, m.1) in
        let c = shared i j k.1 below m.2 in
        overlap_refused t
        (record {
          guests = c.0;
          in_range = c.1;
          one = i;
          other = j;
          differ = λ e. omega (arith, e, m.1);
          falls_one = record { read = k.1; from = c.2; to = c.3 };
          falls_other = record { read = below; from = c.4; to = c.5 };
        })

    -- bands that hold one guest count share it
    holding : (i j : ℕ) → i < t.count → j < i → (c : ℕ) → (band t i).first ≤ c → c ≤ (band t i).last → (band t j).first ≤ c → c ≤ (band t j).last → T (some t.count (shares_earlier bands))
    holding i j h l c a b d e =
        some_holds (shares_earlier bands) t.count i h
        (some_holds (share bands i) i j l
        (and_both (leb (first_of bands i) (last_of bands j)) (leb (first_of bands j) (last_of bands i))
        (le→leb (first_of bands i) (last_of bands j) (omega (arith, first_is i (omega arith), last_is j (omega arith))))
        (le→leb (first_of bands j) (last_of bands i) (omega (arith, first_is j (omega arith), last_is i (omega arith))))))

    pub refused_sharing : T (refused_17 t) → T (some t.count (shares_earlier bands))
    refused_sharing r =
        let o = refused_overlap t r in
        elim (dec_lt o.other o.one) [
          | yes l ↦ holding o.one o.other o.falls_one.read l o.guests o.falls_one.from o.falls_one.to o.falls_other.from o.falls_other.to
          | no l ↦ holding o.other o.one o.falls_other.read (omega (arith, o.differ)) o.guests o.falls_other.from o.falls_other.to o.falls_one.from o.falls_one.to
        ]

    -- ---- 18

    -- how many of the first k bands a guest count falls in
    abbrev holding_of : ℕ → ℕ → ℕ
    holding_of k c = count k (λ i. falls_in (band t i) c)

    -- counted by guest counts and counted by bands
    by_bands : (all : ℕ) → most_guests < all → (k : ℕ) → k ≤ t.count → sum all (holding_of k) ≡ widths bands k
    by_bands all big zero h = sum_zero (holding_of 0) all (λ c. count_none (λ i. falls_in (band t i) c)) ∙ sym (widths_none bands)
    by_bands all big (suc k) h =
        let more : sum all (holding_of (k + 1)) ≡ sum all (holding_of k) + count all (falls_in (band t k)) = sum_more (holding_of k) (holding_of (k + 1)) (falls_in (band t k)) all (λ c. count_more (λ i. falls_in (band t i) c) k) in
        let between : count all (falls_in (band t k)) ≡ suc (band t k).last - (band t k).first = count_between (band t k).first (band t k).last all (f.ordered k (omega arith)) (omega (arith, f.in_range k (omega arith))) in
        let before : sum all (holding_of k) ≡ widths bands k = by_bands all big k (omega arith) in
        let width : suc (last_of bands k) - first_of bands k ≡ suc (band t k).last - (band t k).first = ap₂ (λ (a b : ℕ). suc a - b) (last_is k (omega arith)) (first_is k (omega arith)) in
        ap (λ (j : ℕ). sum all (holding_of j)) (sym (add-one k)) ∙ more ∙ ap₂ (λ (a b : ℕ). a + b) before (between ∙ sym width) ∙ sym (widths_more bands k) ∙ ap (widths bands) (add-one k)

    module _ (n : T (refused_17 t) → ⊥) where
      at_most_one : (c : ℕ) → c < suc most_guests → bands_holding t c ≤ 1
      unfolding refused_17
      at_most_one c h = enough 1 (bands_holding t c) (λ s. n (some_holds (λ g. ltb 1 (bands_holding t g)) (suc most_guests) c h s))

      all_widths : sum (suc most_guests) (bands_holding t) ≡ widths bands t.count
      unfolding bands_holding
      all_widths = by_bands (suc most_guests) (omega arith) t.count (omega arith)

      pub fewer_refused : widths bands t.count < 20001 → T (refused_18 t)
      unfolding refused_18
      fewer_refused l =
          by_test (some (suc most_guests) (λ g. eqb (bands_holding t g) 0)) (λ s. s)
          (λ m. absurd (let z : ⊥ = omega (arith, all_widths, sum_ones (bands_holding t) (suc most_guests) (one m)) in z))
        where
          one : (T (some (suc most_guests) (λ g. eqb (bands_holding t g) 0)) → ⊥) → (c : ℕ) → c < suc most_guests → bands_holding t c ≡ 1
          one m c h =
              elim (dec_lt 0 (bands_holding t c)) [
                | yes q ↦ omega (arith, at_most_one c h)
                | no q ↦ absurd (m (some_holds (λ g. eqb (bands_holding t g) 0) (suc most_guests) c h (subst T (sym (eq-eqb (bands_holding t c) 0 (let z : bands_holding t c ≡ 0 = omega arith in z))) tt)))
              ]

      pub refused_fewer : T (refused_18 t) → widths bands t.count < 20001
      unfolding refused_18
      refused_fewer r =
          let k = some_witness (λ g. eqb (bands_holding t g) 0) (suc most_guests) r in
          omega (arith, all_widths, sum_less (bands_holding t) (suc most_guests) k.0 at_most_one k.1 (eqb→eq (bands_holding t k.0) 0 k.2))

  -- ---- the band

  pub same_place : (guests : ℕ) → lowest t.count (falls_at bands guests) ≡ lowest t.count (λ i. falls_in (band t i) guests)
  same_place guests =
      lowest_ext (falls_at bands guests) (λ i. falls_in (band t i) guests) t.count
      (λ i h. ap (λ (b : Band). falls_in b guests) (w i h))
