-- Laws of written text: stores one after the other, and texts one after the other.
use mathlib.Core.Path.{◌≡◌, refl, sym, ap, ap₂, ◌∙◌, subst}
use mathlib.Core.List.{List, [], ◌∷◌, ◌++◌}
use Prim.Native.Nat.{ℕ, suc, ◌+◌, ◌-◌, ◌≤◌}
use native.Mathlib.Omega.{arith}
use native.Mathlib.Nat.{add-zero, zero-add}
use lib.ListN.{length, set, drop, length-append}
use lib.Seq.{sets, sets-eq}
use borrow.Rule.Slice.PartMut.{put_mid}
use Rattle.std.proofs.lemmas.List.{take-append-drop}
use Rattle.std.proofs.lemmas.Slice.{take-put_mid, drop-put_mid}
use Rattle.model.specs.Layout.{over}
use Rattle.cover_text.specs.Write.{Wrote}

-- two runs of stores, the second where the first ends
pub sets_append : (l : List ℕ) (at : ℕ) (a b : List ℕ) → sets (sets l at a) (at + length a) b ≡ sets l at (a ++ b)
sets_append l at [] b = rw add-zero
sets_append l at (x ∷ a) b =
    ap (λ (k : ℕ). sets (sets (set l at x) (suc at) a) k b) (let e : at + suc (length a) ≡ suc at + length a = omega arith in e) ∙
    sets_append (set l at x) (suc at) a b

-- a text in the place of as much
pub put_sets : (l : List ℕ) (at : ℕ) (text : List ℕ) → at + length text ≤ length l → put_mid at (at + length text - at) l text ≡ sets l at text
put_sets l at text h =
    sym (take-append-drop (at + length text) (put_mid at (at + length text - at) l text)) ∙
    ap₂ ◌++◌ (take-put_mid at (at + length text - at) l text (at + length text) refl (omega arith)) (drop-put_mid at (at + length text - at) l text (at + length text) (omega arith) (omega arith) (omega arith)) ∙
    sym (sets-eq text l at h)

-- stores from the start on are new words over the old ones
pub sets_over : (l new : List ℕ) → length new ≤ length l → sets l 0 new ≡ over new l
sets_over l new h = sets-eq new l 0 (omega arith) ∙ ap (λ (k : ℕ). new ++ drop k l) (zero-add (length new))

-- no text
pub wrote_none : (l : List ℕ) (at : ℕ) → Wrote l at [] 0 l at
wrote_none l at = record { bytes = refl; stops = sym (add-zero at); short = omega arith }

-- one byte
pub wrote_byte : (l : List ℕ) (at b : ℕ) → Wrote l at (b ∷ []) 1 (set l at b) (at + 1)
wrote_byte l at b = record { bytes = refl; stops = refl; short = omega arith }

-- two texts, the second where the first ends
pub wrote_append :
    {l m n a b : List ℕ} {at p end j k : ℕ} → Wrote l at a j m p → Wrote m p b k n end → Wrote l at (a ++ b) (j + k) n end
wrote_append {l} {m} {n} {a} {b} {at} {p} {end} v w =
    record {
      bytes =
          w.bytes ∙
          ap (λ (x : List ℕ). sets x p b) v.bytes ∙
          ap (λ (i : ℕ). sets (sets l at a) i b) v.stops ∙
          sets_append l at a b;
      stops = omega (arith, v.stops, w.stops, length-append a b);
      short = omega (arith, v.short, w.short);
    }

-- the same text
pub wrote_text : {l n a b : List ℕ} {at end j : ℕ} → a ≡ b → Wrote l at a j n end → Wrote l at b j n end
wrote_text {l} {n} {a} {b} {at} {end} {j} e w = subst (λ (x : List ℕ). Wrote l at x j n end) e w

-- a looser bound
pub wrote_most : {l n a : List ℕ} {at end j : ℕ} (k : ℕ) → j ≤ k → Wrote l at a j n end → Wrote l at a k n end
wrote_most k h w = record { bytes = w.bytes; stops = w.stops; short = omega (arith, w.short) }

-- a bound by the length of the text
pub wrote_length : {l n a : List ℕ} {at end j : ℕ} (k : ℕ) → length a ≤ k → Wrote l at a j n end → Wrote l at a k n end
wrote_length k h w = record { bytes = w.bytes; stops = w.stops; short = omega (arith, w.stops) }
