-- Laws of a crowd table: what its numbers say, and the limits that a look-up gives.
use mathlib.Core.Path.{◌≡◌, refl, sym, ap, ◌∙◌, subst}
use mathlib.Core.Logic.{◌≢◌}
use mathlib.Core.Bool.{Bool, ◌&&◌, ◌||◌, not}
use Prim.Native.Nat.{ℕ, zero, suc, ◌≤◌, ◌<◌}
use native.Mathlib.Omega.{arith}
use native.Mathlib.Decide.{dec_lt, ℕ_discrete}
use lib.Dec.{T, ltb, leb, eqb, T_not, ltb→lt, lt→ltb, leb→le, le→leb, eqb→eq}
use borrow.Author.Tests.{eq-eqb}
use Rattle.model.specs.declared.Bands.{Bands}
use Rattle.model.specs.declared.CrowdLimits.{CrowdLimits}
use Rattle.model.specs.Count.{count, some, lowest}
use Rattle.model.specs.Crowd.{most_guests, band, falls_in, bands_holding, refused_16, refused_17, refused_18, crowd_refusal, band_for, board_crowd_limits}
use Rattle.model.specs.CrowdLaws.{FallsIn, InOneBand, Overlap, Gap, Formed, CrowdLimitsLaws}
use Rattle.model.proofs.Count.{by_test, and_left, and_right, and_both, or_left, or_right, or_cases, test_false, count_pos, count_two, count_witness, count_two_witness, count_zero, some_holds, some_witness, lowest_lt, lowest_passes}
use Rattle.model.proofs.Chain.{first_nil, first_here, first_skip, enough, not_less}

module _ (t : Bands) where
  abbrev falls : ℕ → ℕ → Bool
  falls c i = falls_in (band t i) c

  pub falls_into : (c i : ℕ) → i < t.count → T (falls c i) → FallsIn t c i
  falls_into c i l f =
      let first : ℕ = (band t i).first in
      let last : ℕ = (band t i).last in
      record { read = l; from = leb→le first c (and_left (leb first c) (leb c last) f); to = leb→le c last (and_right (leb first c) (leb c last) f) }

  pub falls_test : (c i : ℕ) → FallsIn t c i → T (falls c i)
  falls_test c i f = and_both (leb (band t i).first c) (leb c (band t i).last) (le→leb (band t i).first c f.from) (le→leb c (band t i).last f.to)

  -- ---- 16

  module _ (guests : ℕ) where
    abbrev sizes : Bool
    sizes = not (leb 1 t.count && leb t.count 8)

    abbrev reversed : ℕ → Bool
    reversed i = ltb (band t i).last (band t i).first

    abbrev too_many : ℕ → Bool
    too_many i = ltb most_guests (band t i).first || ltb most_guests (band t i).last

    pub formed_passes : Formed t → guests ≤ most_guests → T (refused_16 t guests) → ⊥
    unfolding refused_16
    formed_passes f g r =
        or_cases (sizes || some t.count reversed || some t.count too_many) (ltb most_guests guests) r
        (λ a. or_cases (sizes || some t.count reversed) (some t.count too_many) a
        (λ b. or_cases sizes (some t.count reversed) b
        (λ s. T_not (leb 1 t.count && leb t.count 8) s (and_both (leb 1 t.count) (leb t.count 8) (le→leb 1 t.count f.least) (le→leb t.count 8 f.most)))
        (λ s. let w = some_witness reversed t.count s in omega (arith, ltb→lt (band t w.0).last (band t w.0).first w.2, f.ordered w.0 w.1)))
        (λ s. let w = some_witness too_many t.count s in
        or_cases (ltb most_guests (band t w.0).first) (ltb most_guests (band t w.0).last) w.2
        (λ k. omega (arith, ltb→lt most_guests (band t w.0).first k, f.ordered w.0 w.1, f.in_range w.0 w.1))
        (λ k. omega (arith, ltb→lt most_guests (band t w.0).last k, f.in_range w.0 w.1))))
        (not_less most_guests guests g)

    pub passes_formed : (T (refused_16 t guests) → ⊥) → Formed t × (guests ≤ most_guests)
    unfolding refused_16
    passes_formed n =
        let three : Bool = sizes || some t.count reversed || some t.count too_many in
        let two : Bool = sizes || some t.count reversed in
        let sized : (T sizes → ⊥) = λ s. n (or_left three _ (or_left two _ (or_left sizes _ s))) in
        let both : T (leb 1 t.count && leb t.count 8) = by_test (leb 1 t.count && leb t.count 8) (λ s. s) (λ m. absurd (sized (not_holds (leb 1 t.count && leb t.count 8) m))) in (
          record {
            least = leb→le 1 t.count (and_left (leb 1 t.count) (leb t.count 8) both);
            most = leb→le t.count 8 (and_right (leb 1 t.count) (leb t.count 8) both);
            ordered = λ i l. enough (band t i).last (band t i).first (λ s. n (or_left three _ (or_left two _ (or_right sizes _ (some_holds reversed t.count i l s)))));
            in_range = λ i l. enough most_guests (band t i).last (λ s. n (or_left three _ (or_right two _ (some_holds too_many t.count i l (or_right (ltb most_guests (band t i).first) _ s)))));
          },
          enough most_guests guests (λ s. n (or_right three _ s)),
        )
      where
        not_holds : (b : Bool) → (T b → ⊥) → T (not b)
        not_holds b m = subst T (ap not (sym (test_false b m))) tt

  -- ---- 17 and 18

  pub overlap_refused : Overlap t → T (refused_17 t)
  unfolding refused_17 bands_holding
  overlap_refused o =
      let c : ℕ = o.guests in
      some_holds (λ g. ltb 1 (bands_holding t g)) (suc most_guests) c (omega (arith, o.in_range))
      (lt→ltb 1 (count t.count (falls c))
      (elim (dec_lt o.one o.other) [
        | yes l ↦ count_two (falls c) t.count o.one o.other l o.falls_other.read (falls_test c o.one o.falls_one) (falls_test c o.other o.falls_other)
        | no l ↦ count_two (falls c) t.count o.other o.one (omega (arith, o.differ)) o.falls_one.read (falls_test c o.other o.falls_other) (falls_test c o.one o.falls_one)
      ]))

  pub refused_overlap : T (refused_17 t) → Overlap t
  unfolding refused_17 bands_holding
  refused_overlap r =
      let w = some_witness (λ g. ltb 1 (bands_holding t g)) (suc most_guests) r in
      let c : ℕ = w.0 in
      let two = count_two_witness (falls c) t.count (ltb→lt 1 (count t.count (falls c)) w.2) in
      record {
        guests = c;
        in_range = omega (arith, w.1);
        one = two.0;
        other = two.1;
        differ = λ e. omega (arith, e, two.2);
        falls_one = falls_into c two.0 (omega (arith, two.2, two.3)) two.4;
        falls_other = falls_into c two.1 two.3 two.5;
      }

  pub gap_refused : Gap t → T (refused_18 t)
  unfolding refused_18 bands_holding
  gap_refused g =
      let c : ℕ = g.guests in
      some_holds (λ n. eqb (bands_holding t n) 0) (suc most_guests) c (omega (arith, g.in_range))
      (subst T (sym (eq-eqb (count t.count (falls c)) 0 (count_zero (falls c) t.count (λ i l f. g.none i (falls_into c i l f))))) tt)

  pub refused_gap : T (refused_18 t) → Gap t
  unfolding refused_18 bands_holding
  refused_gap r =
      let w = some_witness (λ n. eqb (bands_holding t n) 0) (suc most_guests) r in
      let c : ℕ = w.0 in
      record {
        guests = c;
        in_range = omega (arith, w.1);
        none = λ i f. omega (arith, eqb→eq (count t.count (falls c)) 0 w.2, count_pos (falls c) t.count i f.read (falls_test c i f));
      }

  -- where 17 and 18 don't apply, every guest count falls in exactly one band, and where every one does they don't
  pub passes_one : (T (refused_17 t) → ⊥) → (T (refused_18 t) → ⊥) → (c : ℕ) → c ≤ most_guests → InOneBand t c
  passes_one n m c l =
      elim (dec_lt 0 (count t.count (falls c))) [
        | yes k ↦
            (let w = count_witness (falls c) t.count k in
            let f = falls_into c w.0 w.1 w.2 in
            record {
              place = w.0;
              falls = f;
              only = λ i g.
                  elim (ℕ_discrete i w.0) [
                    | yes e ↦ e
                    | no d ↦ absurd (n (overlap_refused (record { guests = c; in_range = l; one = i; other = w.0; differ = d; falls_one = g; falls_other = f })))
                  ];
            })
        | no k ↦
            absurd (m (gap_refused (record { guests = c; in_range = l; none = λ i f. k (count_pos (falls c) t.count i f.read (falls_test c i f)) })))
      ]

  pub one_passes_17 : ((c : ℕ) → c ≤ most_guests → InOneBand t c) → T (refused_17 t) → ⊥
  one_passes_17 one r =
      let o = refused_overlap r in
      let b = one o.guests o.in_range in
      o.differ (b.only o.one o.falls_one ∙ sym (b.only o.other o.falls_other))

  pub one_passes_18 : ((c : ℕ) → c ≤ most_guests → InOneBand t c) → T (refused_18 t) → ⊥
  one_passes_18 one r =
      let g = refused_gap r in
      g.none (one g.guests g.in_range).place (one g.guests g.in_range).falls

  -- ---- the look-up

  module _ (guests : ℕ) where
    pub limits_code : (k : ℕ) → crowd_refusal t guests ≡ k → (board_crowd_limits t guests).code ≡ k
    unfolding board_crowd_limits
    limits_code zero e = rw (e, board_crowd_limits)
    limits_code (suc k) e = rw (e, board_crowd_limits)

    pub limits_taken : crowd_refusal t guests ≡ 0 → board_crowd_limits t guests ≡ record { code = 0; alpha = (band_for t guests).alpha; beta = (band_for t guests).beta }
    unfolding board_crowd_limits
    limits_taken e = rw (e, board_crowd_limits)

    pub limits_refused : (k : ℕ) → crowd_refusal t guests ≡ suc k → board_crowd_limits t guests ≡ record { code = suc k; alpha = 0; beta = 0 }
    unfolding board_crowd_limits
    limits_refused k e = rw (e, board_crowd_limits)

    abbrev code : ℕ
    code = (board_crowd_limits t guests).code

    -- the number by the first test that applies
    pub refusal_16 : T (refused_16 t guests) → crowd_refusal t guests ≡ 16
    unfolding crowd_refusal
    refusal_16 r = first_here 16 (refused_16 t guests) _ r

    pub refusal_17 : (T (refused_16 t guests) → ⊥) → T (refused_17 t) → crowd_refusal t guests ≡ 17
    unfolding crowd_refusal
    refusal_17 n r = first_skip 16 (refused_16 t guests) _ n ∙ first_here 17 (refused_17 t) _ r

    pub refusal_18 : (T (refused_16 t guests) → ⊥) → (T (refused_17 t) → ⊥) → T (refused_18 t) → crowd_refusal t guests ≡ 18
    unfolding crowd_refusal
    refusal_18 n m r = first_skip 16 (refused_16 t guests) _ n ∙ first_skip 17 (refused_17 t) _ m ∙ first_here 18 (refused_18 t) _ r

    pub refusal_none : (T (refused_16 t guests) → ⊥) → (T (refused_17 t) → ⊥) → (T (refused_18 t) → ⊥) → crowd_refusal t guests ≡ 0
    unfolding crowd_refusal
    refusal_none n m o = first_skip 16 (refused_16 t guests) _ n ∙ first_skip 17 (refused_17 t) _ m ∙ first_skip 18 (refused_18 t) _ o ∙ first_nil

    -- which tests apply, by the number
    by_code {ℓ} : {C : Type ℓ} →
        (T (refused_16 t guests) → code ≡ 16 → C) →
        ((T (refused_16 t guests) → ⊥) → T (refused_17 t) → code ≡ 17 → C) →
        ((T (refused_16 t guests) → ⊥) → (T (refused_17 t) → ⊥) → T (refused_18 t) → code ≡ 18 → C) →
        ((T (refused_16 t guests) → ⊥) → (T (refused_17 t) → ⊥) → (T (refused_18 t) → ⊥) → crowd_refusal t guests ≡ 0 → C) →
        C
    by_code a b c d =
        by_test (refused_16 t guests)
        (λ r. a r (limits_code 16 (refusal_16 r)))
        (λ n. by_test (refused_17 t)
        (λ r. b n r (limits_code 17 (refusal_17 n r)))
        (λ m. by_test (refused_18 t) (λ r. c n m r (limits_code 18 (refusal_18 n m r))) (λ o. d n m o (refusal_none n m o))))

    pub taken_one : crowd_refusal t guests ≡ 0 → Formed t × (guests ≤ most_guests) × ((c : ℕ) → c ≤ most_guests → InOneBand t c)
    taken_one e =
        by_code
        (λ r k. absurd (let z : ⊥ = omega (arith, k, limits_code 0 e) in z))
        (λ n r k. absurd (let z : ⊥ = omega (arith, k, limits_code 0 e) in z))
        (λ n m r k. absurd (let z : ⊥ = omega (arith, k, limits_code 0 e) in z))
        (λ n m o k. let f = passes_formed guests n in (f.0, f.1, passes_one m o))

    -- the band that the look-up finds is the one that holds the guest count
    pub band_found : crowd_refusal t guests ≡ 0 → (i : ℕ) → FallsIn t guests i → lowest t.count (falls guests) ≡ i
    band_found e i f =
        let accepted = taken_one e in
        let one = accepted.2 guests accepted.1 in
        let l = lowest_lt (falls guests) t.count i f.read (falls_test guests i f) in
        one.only _ (falls_into guests _ l (lowest_passes (falls guests) t.count l)) ∙ sym (one.only i f)

    pub code_refusal : (k : ℕ) → code ≡ k → crowd_refusal t guests ≡ k
    code_refusal k e = sym (limits_code (crowd_refusal t guests) refl) ∙ e

    -- beside a refusal both limits are 0
    refused_zero : code ≢ 0 → ((board_crowd_limits t guests).alpha ≡ 0) × ((board_crowd_limits t guests).beta ≡ 0)
    refused_zero n = go (crowd_refusal t guests) refl
      where
        go : (k : ℕ) → crowd_refusal t guests ≡ k → ((board_crowd_limits t guests).alpha ≡ 0) × ((board_crowd_limits t guests).beta ≡ 0)
        go zero e = absurd (n (limits_code 0 e))
        go (suc k) e = (ap (λ (l : CrowdLimits). l.alpha) (limits_refused k e), ap (λ (l : CrowdLimits). l.beta) (limits_refused k e))

    -- two numbers of one look-up
    other : (j k : ℕ) → code ≡ j → code ≡ k → j ≢ k → ⊥
    other j k a b n = n (sym a ∙ b)

pub crowd_limits_laws : (t : Bands) (guests : ℕ) → CrowdLimitsLaws t guests
crowd_limits_laws t guests =
    record {
      accepted = (
        λ e. taken_one t guests (code_refusal t guests 0 e),
        λ a. limits_code t guests 0 (refusal_none t guests (formed_passes t guests a.0 a.1) (one_passes_17 t a.2) (one_passes_18 t a.2)),
      );
      sixteen = (
        λ e f. by_code t guests
            (λ r k. formed_passes t guests f.0 f.1 r)
            (λ n r k. other t guests 16 17 e k (λ q. omega arith))
            (λ n m r k. other t guests 16 18 e k (λ q. omega arith))
            (λ n m o k. other t guests 16 0 e (limits_code t guests 0 k) (λ q. omega arith)),
        λ f. by_code t guests (λ r k. k) (λ n r k. absurd (f (passes_formed t guests n))) (λ n m r k. absurd (f (passes_formed t guests n))) (λ n m o k. absurd (f (passes_formed t guests n))),
      );
      seventeen = (
        λ e. by_code t guests
            (λ r k. absurd (other t guests 17 16 e k (λ q. omega arith)))
            (λ n r k. let f = passes_formed t guests n in (f.0, f.1, refused_overlap t r))
            (λ n m r k. absurd (other t guests 17 18 e k (λ q. omega arith)))
            (λ n m o k. absurd (other t guests 17 0 e (limits_code t guests 0 k) (λ q. omega arith))),
        λ a. limits_code t guests 17 (refusal_17 t guests (formed_passes t guests a.0 a.1) (overlap_refused t a.2)),
      );
      eighteen = (
        λ e. by_code t guests
            (λ r k. absurd (other t guests 18 16 e k (λ q. omega arith)))
            (λ n r k. absurd (other t guests 18 17 e k (λ q. omega arith)))
            (λ n m r k. let f = passes_formed t guests n in (f.0, f.1, λ o. m (overlap_refused t o), refused_gap t r))
            (λ n m o k. absurd (other t guests 18 0 e (limits_code t guests 0 k) (λ q. omega arith))),
        λ a. limits_code t guests 18 (refusal_18 t guests (formed_passes t guests a.0 a.1) (λ r. a.2 (refused_overlap t r)) (gap_refused t a.3)),
      );
      alpha = λ e i f. let z = code_refusal t guests 0 e in ap (λ (l : CrowdLimits). l.alpha) (limits_taken t guests z) ∙ ap (λ (k : ℕ). (band t k).alpha) (band_found t guests z i f);
      beta = λ e i f. let z = code_refusal t guests 0 e in ap (λ (l : CrowdLimits). l.beta) (limits_taken t guests z) ∙ ap (λ (k : ℕ). (band t k).beta) (band_found t guests z i f);
      no_alpha = λ n. (refused_zero t guests n).0;
      no_beta = λ n. (refused_zero t guests n).1;
    }
