-- What a look-up over the bands that a table lists finds.
use mathlib.Core.Path.{◌≡◌, sym, ap, ◌∙◌, subst}
use mathlib.Core.Bool.{Bool, ◌||◌}
use mathlib.Core.List.{List}
use Prim.Native.Nat.{ℕ, suc, ◌≤◌, ◌<◌}
use native.Mathlib.Omega.{arith}
use lib.Dec.{T, ltb, ltb→lt}
use lib.ListN.{length}
use Rattle.std.specs.Prelude.{Option, Some, None}
use Rattle.std.specs.List.{list_any, find}
use Rattle.model.specs.declared.Band.{Band}
use Rattle.model.specs.declared.Bands.{Bands}
use Rattle.model.specs.declared.CrowdLimits.{CrowdLimits}
use Rattle.model.specs.Count.{some, lowest}
use Rattle.model.specs.Crowd.{most_guests, band, band_for, falls_in, refused_16, refused_17, crowd_refusal, board_crowd_limits}
use Rattle.model.specs.CrowdLaws.{Formed}
use Rattle.model.proofs.Count.{by_test, test_true, test_false, or_left, or_right, or_cases, lowest_lt, lowest_passes, lowest_least}
use Rattle.model.proofs.Chain.{enough}
use Rattle.model.proofs.CrowdTable.{falls_test, formed_passes, passes_formed, limits_taken, limits_refused, refusal_16, refusal_17, refusal_18, refusal_none, taken_one}
use Rattle.crowd_bands.specs.Bands.{at, first_of, last_of, malformed, malformed_at, shares_earlier, widths}
use Rattle.crowd_bands.proofs.Any.{any_all, find_first}
use Rattle.crowd_bands.proofs.Table.{malformed_refused, formed, bands_ordered, sharing_refused, refused_sharing, fewer_refused, refused_fewer}

module _ (t : Bands) (guests : ℕ) where
  abbrev out : Bool
  out = ltb t.count 1 || ltb 8 t.count || ltb most_guests guests

  abbrev RefusedBy : ℕ → Type 0
  RefusedBy k = ◌≡◌ {A = CrowdLimits} (record { code = k; alpha = 0; beta = 0 }) (board_crowd_limits t guests)

  refused_by : (k : ℕ) → crowd_refusal t guests ≡ suc k → RefusedBy (suc k)
  refused_by k r = sym (limits_refused t guests k r)

  pub found_out : T out → RefusedBy 16
  found_out o =
      refused_by 15
      (refusal_16 t guests
      (by_test (refused_16 t guests) (λ r. r)
      (λ q.
      let p = passes_formed t guests q in
      absurd (or_cases (ltb t.count 1 || ltb 8 t.count) (ltb most_guests guests) o
      (λ s. or_cases (ltb t.count 1) (ltb 8 t.count) s (λ k. let z : ⊥ = omega (arith, ltb→lt t.count 1 k, p.0.least) in z) (λ k. let z : ⊥ = omega (arith, ltb→lt 8 t.count k, p.0.most) in z))
      (λ k. let z : ⊥ = omega (arith, ltb→lt most_guests guests k, p.1) in z)))))

  module _ (in_range : T out → ⊥) where
    pub least : 1 ≤ t.count
    least = enough t.count 1 (λ s. in_range (or_left (ltb t.count 1 || ltb 8 t.count) (ltb most_guests guests) (or_left (ltb t.count 1) (ltb 8 t.count) s)))

    pub most : t.count ≤ 8
    most = enough 8 t.count (λ s. in_range (or_left (ltb t.count 1 || ltb 8 t.count) (ltb most_guests guests) (or_right (ltb t.count 1) (ltb 8 t.count) s)))

    asked : guests ≤ most_guests
    asked = enough most_guests guests (λ s. in_range (or_right (ltb t.count 1 || ltb 8 t.count) (ltb most_guests guests) s))

    -- the bands that the table lists
    module _ (bands : List Band) (long : length bands ≡ t.count) (w : (i : ℕ) → i < t.count → at bands i ≡ band t i) where
      -- a test of all of them is one of so many
      all : (p : ℕ → Bool) → T (some (length bands) p) → T (some t.count p)
      all p = subst (λ (k : ℕ). T (some k p)) long

      back : (p : ℕ → Bool) → T (some t.count p) → T (some (length bands) p)
      back p = subst (λ (k : ℕ). T (some k p)) (sym long)

      any_is : list_any malformed bands ≡ some (length bands) (malformed_at bands)
      any_is = any_all malformed bands _

      pub found_malformed : T (list_any malformed bands) → RefusedBy 16
      found_malformed m = refused_by 15 (refusal_16 t guests (malformed_refused t bands w most guests (all (malformed_at bands) (subst T any_is m))))

      module _ (well : T (list_any malformed bands) → ⊥) where
        form : Formed t
        form = formed t bands w most least (λ m. well (subst T (sym any_is) (back (malformed_at bands) m)))

        not_16 : T (refused_16 t guests) → ⊥
        not_16 = formed_passes t guests form asked

        pub ordered : (i : ℕ) → i < length bands → first_of bands i ≤ last_of bands i
        ordered i h = bands_ordered t bands w most form i (omega (arith, long))

        pub found_overlap : T (some (length bands) (shares_earlier bands)) → RefusedBy 17
        found_overlap s = refused_by 16 (refusal_17 t guests not_16 (sharing_refused t bands w most form (all (shares_earlier bands) s)))

        module _ (apart : T (some (length bands) (shares_earlier bands)) → ⊥) where
          not_17 : T (refused_17 t) → ⊥
          not_17 r = apart (back (shares_earlier bands) (refused_sharing t bands w most form r))

          pub found_gap : widths bands (length bands) < 20001 → RefusedBy 18
          found_gap l = refused_by 17 (refusal_18 t guests not_16 not_17 (fewer_refused t bands w most form not_17 (subst (λ (k : ℕ). widths bands k < 20001) long l)))

          module _ (full : 20001 ≤ widths bands (length bands)) where
            none : crowd_refusal t guests ≡ 0
            none = refusal_none t guests not_16 not_17 (λ r. let z : ⊥ = omega (arith, full, subst (λ (k : ℕ). widths bands k < 20001) (sym long) (refused_fewer t bands w most form not_17 r)) in z)

            place : ℕ
            place = lowest t.count (λ i. falls_in (band t i) guests)

            below : place < t.count
            unfolding place
            below = let one = (taken_one t guests none).2 guests asked in lowest_lt (λ i. falls_in (band t i) guests) t.count one.place one.falls.read (falls_test t guests one.place one.falls)

            -- the first that the guest count falls in is that of the definition
            pub first : find (λ b. falls_in b guests) bands ≡ Some (band_for t guests)
            unfolding place
            first =
                find_first (λ b. falls_in b guests) bands _ place (omega (arith, below, long))
                (ap (λ (b : Band). falls_in b guests) (w place below) ∙ test_true _ (lowest_passes (λ i. falls_in (band t i) guests) t.count below))
                (λ k h. ap (λ (b : Band). falls_in b guests) (w k (omega (arith, below))) ∙ test_false _ (lowest_least (λ i. falls_in (band t i) guests) t.count k h)) ∙
                ap (λ (b : Band). Some b) (w place below)

            pub found : (b : Band) → find (λ x. falls_in x guests) bands ≡ Some b → ◌≡◌ {A = CrowdLimits} (record { code = 0; alpha = b.alpha; beta = b.beta }) (board_crowd_limits t guests)
            found b e = ap taken (ap inside (sym e ∙ first)) ∙ sym (limits_taken t guests none)
              where
                taken : Band → CrowdLimits
                taken x = record { code = 0; alpha = x.alpha; beta = x.beta }

                inside : Option Band → Band
                inside (Some x) = x
                inside None = b
