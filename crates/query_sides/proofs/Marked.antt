-- The marks of one side of a row: those that a loop has set, and those of levels of 0.
use mathlib.Core.Path.{◌≡◌, sym, ap, ◌∙◌}
use mathlib.Core.Bool.{Bool, false, ◌&&◌}
use mathlib.Core.List.{List}
use Prim.Native.Nat.{ℕ, ◌+◌, ◌≤◌, ◌<◌}
use native.Mathlib.Omega.{arith}
use lib.Dec.{T, leb, leb→le}
use lib.ListN.{length, get_or, set, replicate, length-replicate}
use Rattle.model.specs.Count.{bit, count}
use Rattle.model.specs.Graph.{present}
use Rattle.model.proofs.Count.{test_false, and_right, bit_le, count_le, count_more, count_none, count_zero, count_ext}
use Rattle.model.proofs.Store.{stored, getD_zeros}
use Rattle.query_sides.specs.Marked.{Upto, Marked}

module _ (test : ℕ → Bool) (marks : List ℕ) where
  pub upto_none : Upto test 0 0 marks
  upto_none = record { marks_are = λ k l. absurd (let z : ⊥ = omega arith in z); counted = sym (count_none test) }

  module _ (i r m : ℕ) (u : Upto test i r marks) (e : m ≡ bit (test i)) where
    -- one mark more
    pub upto_more : i < length marks → Upto test (i + 1) (r + m) (set marks i m)
    upto_more l =
        record {
          marks_are = stored (λ (k : ℕ). bit (test k)) marks marks i m l e u.marks_are;
          counted = omega (arith, u.counted, e, count_more test i);
        }

    -- the count of those is small
    pub upto_few : r + m ≤ i + 1
    upto_few = omega (arith, u.counted, e, count_le test i, bit_le (test i))

-- the marks of all levels, where the test says who is in
pub upto_marked : (levels presence : List ℕ) (least i r : ℕ) (marks : List ℕ) (test : ℕ → Bool) → i ≡ length levels → ((k : ℕ) → k < i → test k ≡ (present presence k && leb least (get_or levels k 0))) → Upto test i r marks → Marked levels presence least r marks
upto_marked levels presence least i r marks test e same u =
    record {
      marks_are = λ k l. u.marks_are k (omega arith) ∙ ap bit (same k (omega arith));
      counted = u.counted ∙ count_ext test (λ k. present presence k && leb least (get_or levels k 0)) i same ∙ ap (λ (z : ℕ). count z (λ k. present presence k && leb least (get_or levels k 0))) e;
    }

-- from level 1 on nobody is marked whose level is 0
pub none_marked : (presence words : List ℕ) (least : ℕ) → 1 ≤ least → ((k : ℕ) → k < length presence → get_or words k 0 ≡ 0) → Marked (replicate (length presence) 0) presence least 0 words
none_marked presence words least l none =
    upto_marked zeros presence least n 0 words (λ k. false) (sym (length-replicate {A = ℕ} n 0))
    (λ k h. sym (test_false (present presence k && leb least (get_or zeros k 0)) (λ t. above (get_or zeros k 0) (getD_zeros n k) (and_right (present presence k) (leb least (get_or zeros k 0)) t))))
    (record {
      marks_are = none;
      counted = sym (count_zero (λ k. false) n (λ k h t. t));
    })
  where
    n : ℕ
    n = length presence

    zeros : List ℕ
    zeros = replicate n 0

    above : (z : ℕ) → z ≡ 0 → T (leb least z) → ⊥
    above z e t = omega (arith, leb→le least z t)
