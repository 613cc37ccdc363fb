-- Document 02, 2.6, Limits by crowd: bands of guest counts, the numbers 16 to 18, the look-up, and the cover for a guest count; 2.8: with minimums.
use Rattle.std.specs.Prelude.{Bool, ◌&&◌, ◌||◌, not, List, [], ◌∷◌, ◌++◌, ℕ, zero, suc, ltb, leb, eqb, get_or}
use Rattle.model.specs.declared.Head.{Head}
use Rattle.model.specs.declared.Band.{Band}
use Rattle.model.specs.declared.Bands.{Bands}
use Rattle.model.specs.declared.CrowdLimits.{CrowdLimits}
use Rattle.model.specs.Count.{count, some, lowest}
use Rattle.model.specs.Graph.{own_limits}
use Rattle.model.specs.Refusal.{first_number, peel_cases}
use Rattle.model.specs.Calls.{QueryOutcome, shown, not_shown, present_cover}

-- the largest number of guests
abbrev pub most_guests : ℕ
most_guests = 20000

-- band i of a table, from 0
abbrev pub band : Bands → ℕ → Band
band t i = get_or t.bands i (record { first = 0; last = 0; alpha = 0; beta = 0 })

-- a guest count falls in a band: it is from its first to its last
abbrev pub falls_in : Band → ℕ → Bool
falls_in b guests = leb b.first guests && leb guests b.last

-- how many of a table's bands a guest count falls in
unfoldable pub bands_holding : Bands → ℕ → ℕ
bands_holding t guests = count t.count (λ i. falls_in (band t i) guests)

-- one of the guest counts from 0 to 20,000 passes the test
abbrev pub some_guests : (ℕ → Bool) → Bool
some_guests test = some (suc most_guests) test

-- 16: a band count outside 1 to 8, a band whose first count exceeds its last, or any guest count above 20,000, the one asked for included
unfoldable pub refused_16 : Bands → ℕ → Bool
refused_16 t guests =
    not (leb 1 t.count && leb t.count 8) || some t.count (λ i. ltb (band t i).last (band t i).first) ||
    some t.count (λ i. ltb most_guests (band t i).first || ltb most_guests (band t i).last) || ltb most_guests guests

-- 17: an overlap: a guest count falls in more than one band
unfoldable pub refused_17 : Bands → Bool
refused_17 t = some_guests (λ guests. ltb 1 (bands_holding t guests))

-- 18: a gap: a guest count falls in no band
unfoldable pub refused_18 : Bands → Bool
refused_18 t = some_guests (λ guests. eqb (bands_holding t guests) 0)

-- 16 to 18, of a table and the guest count asked for
abbrev pub crowd_cases : Bands → ℕ → List (ℕ × Bool)
crowd_cases t guests = (16, refused_16 t guests) ∷ (17, refused_17 t) ∷ (18, refused_18 t) ∷ []

-- look-up: 16 to 18
unfoldable pub crowd_refusal : Bands → ℕ → ℕ
crowd_refusal t guests = first_number (crowd_cases t guests)

-- the band that a guest count falls in: the first such one
abbrev pub band_for : Bands → ℕ → Band
band_for t guests = band t (lowest t.count (λ i. falls_in (band t i) guests))

-- Look-up: the limits of the band that the guest count falls in
unfoldable pub board_crowd_limits : Bands → ℕ → CrowdLimits
board_crowd_limits t guests =
    elim (crowd_refusal t guests) [
      | zero ↦ record { code = 0; alpha = (band_for t guests).alpha; beta = (band_for t guests).beta }
      | suc k ↦ record { code = suc k; alpha = 0; beta = 0 }
    ]

-- Document 02, 2.8: the limits of the band that a guest count falls in, with minimums: its α for operators, for each ride its own minimum where it
-- has one, else the band's β
abbrev pub band_limits : Head → Bands → ℕ → List ℕ → ℕ → ℕ
band_limits h t guests minimums =
    own_limits h.operators minimums (band_for t guests).alpha (band_for t guests).beta

-- cover for a guest count: 1 to 5, then 16 to 18
unfoldable pub crowd_cover_refusal : Head → List ℕ → List ℕ → List ℕ → Bands → ℕ → List ℕ → List ℕ → ℕ
crowd_cover_refusal h operators rides presence t guests minimums marks =
    first_number (peel_cases h operators rides presence minimums marks ++ crowd_cases t guests)

-- Cover for a guest count: the cover for the limits of its band, with minimums
unfoldable pub board_crowd_cover : Head → List ℕ → List ℕ → List ℕ → Bands → ℕ → List ℕ → List ℕ → QueryOutcome
board_crowd_cover h operators rides presence t guests minimums marks =
    elim (crowd_cover_refusal h operators rides presence t guests minimums marks) [
      | zero ↦ shown h (present_cover h operators rides presence (band_limits h t guests minimums)) marks
      | suc k ↦ not_shown (suc k) marks
    ]
