-- The words of a table, stored band by band.
use mathlib.Core.Path.{◌≡◌, refl, ap, ◌∙◌}
use mathlib.Core.List.{List}
use Prim.Native.Nat.{ℕ, ◌+◌, ◌*◌, ◌≤◌, ◌<◌}
use native.Mathlib.Omega.{arith}
use native.Mathlib.Decide.{dec_lt}
use lib.ListN.{length, get_or, set, length-set}
use lib.Seq.{get_or-set_same, get_or-set_other}
use Rattle.model.specs.declared.Band.{Band}
use Rattle.model.specs.declared.Bands.{Bands}
use Rattle.model.specs.Crowd.{band}
use Rattle.crowd_bands.specs.Words.{WordsUpTo}

pub words_none : (t : Bands) (words : List ℕ) → WordsUpTo 0 t words
words_none t words =
    record {
      first = λ i h. absurd (let z : ⊥ = omega arith in z);
      last = λ i h. absurd (let z : ⊥ = omega arith in z);
      alpha = λ i h. absurd (let z : ⊥ = omega arith in z);
      beta = λ i h. absurd (let z : ⊥ = omega arith in z);
    }

-- the words of one band more
module _ (words : List ℕ) (k a b c d : ℕ) (fits : k * 4 + 3 < length words) where
  abbrev pub put_band : List ℕ
  put_band = set (set (set (set words (k * 4) a) (k * 4 + 1) b) (k * 4 + 2) c) (k * 4 + 3) d

  -- a word of another band stays, and those of this one are the new ones
  kept : (j : ℕ) → (j < k * 4) → get_or put_band j 0 ≡ get_or words j 0
  kept j h =
      get_or-set_other (set (set (set words (k * 4) a) (k * 4 + 1) b) (k * 4 + 2) c) (k * 4 + 3) j d 0 (omega arith) ∙
      get_or-set_other (set (set words (k * 4) a) (k * 4 + 1) b) (k * 4 + 2) j c 0 (omega arith) ∙
      get_or-set_other (set words (k * 4) a) (k * 4 + 1) j b 0 (omega arith) ∙
      get_or-set_other words (k * 4) j a 0 (omega arith)

  put_first : get_or put_band (k * 4) 0 ≡ a
  put_first =
      get_or-set_other (set (set (set words (k * 4) a) (k * 4 + 1) b) (k * 4 + 2) c) (k * 4 + 3) (k * 4) d 0 (omega arith) ∙
      get_or-set_other (set (set words (k * 4) a) (k * 4 + 1) b) (k * 4 + 2) (k * 4) c 0 (omega arith) ∙
      get_or-set_other (set words (k * 4) a) (k * 4 + 1) (k * 4) b 0 (omega arith) ∙
      get_or-set_same words (k * 4) a 0 (omega arith)

  put_last : get_or put_band (k * 4 + 1) 0 ≡ b
  put_last =
      get_or-set_other (set (set (set words (k * 4) a) (k * 4 + 1) b) (k * 4 + 2) c) (k * 4 + 3) (k * 4 + 1) d 0 (omega arith) ∙
      get_or-set_other (set (set words (k * 4) a) (k * 4 + 1) b) (k * 4 + 2) (k * 4 + 1) c 0 (omega arith) ∙
      get_or-set_same (set words (k * 4) a) (k * 4 + 1) b 0 (simp length-set (omega arith))

  put_alpha : get_or put_band (k * 4 + 2) 0 ≡ c
  put_alpha =
      get_or-set_other (set (set (set words (k * 4) a) (k * 4 + 1) b) (k * 4 + 2) c) (k * 4 + 3) (k * 4 + 2) d 0 (omega arith) ∙
      get_or-set_same (set (set words (k * 4) a) (k * 4 + 1) b) (k * 4 + 2) c 0 (simp length-set (omega arith))

  put_beta : get_or put_band (k * 4 + 3) 0 ≡ d
  put_beta = get_or-set_same (set (set (set words (k * 4) a) (k * 4 + 1) b) (k * 4 + 2) c) (k * 4 + 3) d 0 (simp length-set (omega arith))

  pub put_length : length put_band ≡ length words
  put_length = simp length-set refl

  -- of the first k bands it was, and now of one more
  module _ (t : Bands) (w : WordsUpTo k t words) (first : a ≡ (band t k).first) (last : b ≡ (band t k).last) (alpha : c ≡ (band t k).alpha) (beta : d ≡ (band t k).beta) where
    -- by the place of the word in its band, its old value and its new one
    more : (o : ℕ) (field : Band → ℕ) → o ≤ 3 → ((i : ℕ) → i < k → get_or words (i * 4 + o) 0 ≡ field (band t i)) → get_or put_band (k * 4 + o) 0 ≡ field (band t k) → (i : ℕ) → i < k + 1 → get_or put_band (i * 4 + o) 0 ≡ field (band t i)
    more o field small was new i h =
        elim (dec_lt i k) [
          | yes l ↦ kept (i * 4 + o) (omega arith) ∙ was i l
          | no l ↦ (let e : i ≡ k = omega arith in rw e new)
        ]

    pub words_more : WordsUpTo (k + 1) t put_band
    words_more =
        record {
          first = λ i h. ap (λ (j : ℕ). get_or put_band j 0) (let z : i * 4 ≡ i * 4 + 0 = omega arith in z) ∙ more 0 (λ (b : Band). b.first) (omega arith) (λ j l. ap (λ (x : ℕ). get_or words x 0) (let z : j * 4 + 0 ≡ j * 4 = omega arith in z) ∙ w.first j l) (ap (λ (j : ℕ). get_or put_band j 0) (let z : k * 4 + 0 ≡ k * 4 = omega arith in z) ∙ put_first ∙ first) i h;
          last = more 1 (λ (b : Band). b.last) (omega arith) w.last (put_last ∙ last);
          alpha = more 2 (λ (b : Band). b.alpha) (omega arith) w.alpha (put_alpha ∙ alpha);
          beta = more 3 (λ (b : Band). b.beta) (omega arith) w.beta (put_beta ∙ beta);
        }
