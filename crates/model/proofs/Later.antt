-- Which of two entries is later: the laws of document 02, and that it is a strict order.
use mathlib.Core.Path.{◌≡◌, sym, ◌∙◌, subst}
use mathlib.Core.Bool.{Bool, ◌&&◌, ◌||◌, not}
use Prim.Native.Nat.{◌≤◌, ◌<◌}
use native.Mathlib.Omega.{arith}
use native.Mathlib.Decide.{dec_lt}
use lib.Dec.{T, ltb, eqb, ltb→lt, lt→ltb, eqb→eq, T_not, not_T}
use borrow.Author.Tests.{eq-eqb}
use Rattle.model.specs.Contents.{Entry, gives, later}
use Rattle.model.specs.EntryLaws.{LaterLaws}
use Rattle.model.proofs.Count.{and_left, and_right, and_both, or_left, or_right, or_cases}

abbrev pub Later : Entry → Entry → Type 0
Later e f = T (later e f)

module _ (e f : Entry) where
  -- at equal stamps and revisions: e takes away, and f gives
  abbrev tie : Bool
  tie = eqb e.revision f.revision && (not (gives e) && gives f)

  -- at equal stamps
  abbrev revised : Bool
  revised = ltb f.revision e.revision || tie

  later_cases {ℓ} : {C : Type ℓ} → Later e f → (f.stamp < e.stamp → C) → (e.stamp ≡ f.stamp → f.revision < e.revision → C) → (e.stamp ≡ f.stamp → e.revision ≡ f.revision → (T (gives e) → ⊥) → T (gives f) → C) → C
  later_cases t c d g =
      or_cases (ltb f.stamp e.stamp) (eqb e.stamp f.stamp && revised) t
      (λ l. c (ltb→lt f.stamp e.stamp l))
      (λ k. let q = eqb→eq e.stamp f.stamp (and_left (eqb e.stamp f.stamp) revised k) in
      or_cases (ltb f.revision e.revision) tie (and_right (eqb e.stamp f.stamp) revised k)
      (λ l. d q (ltb→lt f.revision e.revision l))
      (λ r. let w = and_right (eqb e.revision f.revision) (not (gives e) && gives f) r in
      g q (eqb→eq e.revision f.revision (and_left (eqb e.revision f.revision) (not (gives e) && gives f) r)) (T_not (gives e) (and_left (not (gives e)) (gives f) w)) (and_right (not (gives e)) (gives f) w)))

  pub later_stamp : f.stamp < e.stamp → Later e f
  later_stamp l = or_left (ltb f.stamp e.stamp) (eqb e.stamp f.stamp && revised) (lt→ltb f.stamp e.stamp l)

  later_same : e.stamp ≡ f.stamp → T revised → Later e f
  later_same q t =
      or_right (ltb f.stamp e.stamp) (eqb e.stamp f.stamp && revised) (and_both (eqb e.stamp f.stamp) revised (subst T (sym (eq-eqb e.stamp f.stamp q)) tt) t)

  later_revision : e.stamp ≡ f.stamp → f.revision < e.revision → Later e f
  later_revision q l = later_same q (or_left (ltb f.revision e.revision) tie (lt→ltb f.revision e.revision l))

  pub later_tie : e.stamp ≡ f.stamp → e.revision ≡ f.revision → (T (gives e) → ⊥) → T (gives f) → Later e f
  later_tie q r n g =
      later_same q
      (or_right (ltb f.revision e.revision) tie (and_both (eqb e.revision f.revision) (not (gives e) && gives f) (subst T (sym (eq-eqb e.revision f.revision r)) tt) (and_both (not (gives e)) (gives f) (not_T (gives e) n) g)))

  -- where e is not later, its stamp is at most f's, and at equal stamps its revision
  pub not_later : (Later e f → ⊥) → (e.stamp ≤ f.stamp) × (e.stamp ≡ f.stamp → e.revision ≤ f.revision)
  not_later n = (
    elim (dec_lt f.stamp e.stamp) [ yes l ↦ absurd (n (later_stamp l)) | no l ↦ omega arith ],
    λ q. elim (dec_lt f.revision e.revision) [ yes l ↦ absurd (n (later_revision q l)) | no l ↦ omega arith ],
  )

pub later_irrefl : (e : Entry) → Later e e → ⊥
later_irrefl e t = later_cases e e t (λ h. let z : ⊥ = omega arith in z) (λ q h. let z : ⊥ = omega arith in z) (λ q r n g. n g)

pub later_trans : (e f d : Entry) → Later e f → Later f d → Later e d
later_trans e f d t s =
    later_cases e f t
    (λ h. later_cases f d s (λ l. later_stamp e d (omega arith)) (λ q l. later_stamp e d (omega arith)) (λ q r n g. later_stamp e d (omega arith)))
    (λ q h. later_cases f d s (λ l. later_stamp e d (omega arith)) (λ q' l. later_revision e d (q ∙ q') (omega arith)) (λ q' r n g. later_revision e d (q ∙ q') (omega arith)))
    (λ q r n g. later_cases f d s (λ l. later_stamp e d (omega arith)) (λ q' l. later_revision e d (q ∙ q') (omega arith)) (λ q' r' n' g'. absurd (n' g)))

pub later_laws : LaterLaws
later_laws =
    record {
      stamp = later_stamp;
      revision = later_revision;
      tie = λ e f q r n g. later_tie e f q r (λ t. n (eqb→eq e.word 1 t)) (subst T (sym (eq-eqb f.word 1 g)) tt);
      alike = λ e f q r g t. later_cases e f t (λ h. let z : ⊥ = omega arith in z) (λ p h. let z : ⊥ = omega arith in z) (λ p h n k. n (subst T (sym g) k));
      one_way = λ e f t s. later_irrefl e (later_trans e f e t s);
    }
