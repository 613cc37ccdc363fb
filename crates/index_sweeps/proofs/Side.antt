-- The laws of a sweep: one node visited, and the nodes below i.
use mathlib.Core.Path.{◌≡◌, refl, sym, ap, ap₂, ◌∙◌, subst}
use mathlib.Core.Logic.{◌≢◌}
use mathlib.Core.Bool.{Bool, true, false, ◌&&◌}
use mathlib.Core.List.{List}
use Prim.Native.Nat.{ℕ, ◌+◌, ◌-◌, ◌*◌, ◌≤◌, ◌<◌}
use native.Mathlib.Omega.{arith}
use native.Mathlib.Decide.{ℕ_discrete, dec_lt}
use lib.Bits.{bit_and}
use lib.Dec.{T, ltb, leb, eqb, ltb→lt, lt→ltb, leb→le, le→leb, eqb→eq}
use borrow.Author.Count.{below_more}
use lib.ListN.{length, get_or, set}
use lib.Seq.{get_or-set_same, get_or-set_other}
use Rattle.model.specs.Count.{bit, count}
use Rattle.model.specs.Graph.{marked}
use Rattle.model.proofs.Count.{bit_of, bits_and, by_test, test_true, test_false, test_ext, and_left, and_right, and_both, count_mono, count_but_one, count_less, count_more, count_pos}
use Rattle.model.proofs.Peel.{marked_cleared, marked_other, marked_less, marked_stays}
use Rattle.graph_tables.specs.Table.{joined}
use Rattle.index_sweeps.specs.Sweep.{falls, Side, SideVisited, SideSwept}

-- ---- one node

module _ (kept degrees : List ℕ) (limit i : ℕ) where
  -- the bit that is tested is whether the node falls short
  module _ (h : get_or kept i 0 ≤ 1) (s : ℕ) (e : s ≡ bit (ltb (get_or degrees i 0) limit)) where
    falls_bit : bit_and (get_or kept i 0) s ≡ bit (falls kept degrees limit i)
    falls_bit = ap₂ bit_and (bit_of (get_or kept i 0) h) e ∙ bits_and (marked kept i) (ltb (get_or degrees i 0) limit)

    pub falls_not : bit_and (get_or kept i 0) s ≡ 0 → falls kept degrees limit i ≡ false
    falls_not z = test_false (falls kept degrees limit i) (λ t. let y : ⊥ = omega (arith, z, falls_bit, ap bit (test_true (falls kept degrees limit i) t)) in y)

    pub falls_true : bit_and (get_or kept i 0) s ≢ 0 → falls kept degrees limit i ≡ true
    falls_true n = by_test (falls kept degrees limit i) (test_true (falls kept degrees limit i)) (λ f. absurd (n (falls_bit ∙ ap bit (test_false (falls kept degrees limit i) f))))

  -- whoever falls short is kept
  pub falls_kept : falls kept degrees limit i ≡ true → get_or kept i 0 ≡ 1
  falls_kept e = eqb→eq (get_or kept i 0) 1 (and_left (marked kept i) (ltb (get_or degrees i 0) limit) (subst T (sym e) tt))

module _ (t : List ℕ) (w : ℕ) (kept degrees levels others : List ℕ) (limit level i : ℕ) where
  pub visited_kept : falls kept degrees limit i ≡ false → SideVisited t w kept degrees levels others limit level i 0 kept levels others
  visited_kept e =
      record {
        removed = sym (ap bit e);
        kept_is = rw e;
        levels_is = rw e;
        others_is = λ j h. omega (arith, ap (λ (b : Bool). bit (b && joined t w i j)) e);
      }

  pub visited_removed : (others' : List ℕ) → falls kept degrees limit i ≡ true → ((j : ℕ) → j < length others → get_or others' j 0 ≡ get_or others j 0 - bit (joined t w i j)) → SideVisited t w kept degrees levels others limit level i 1 (set kept i 0) (set levels i level) others'
  visited_removed others' e f =
      record {
        removed = sym (ap bit e);
        kept_is = rw e;
        levels_is = rw e;
        others_is = λ j h. f j h ∙ sym (ap (λ (b : Bool). get_or others j 0 - bit (b && joined t w i j)) e);
      }

-- a kept node is counted in the degree of each node it is joined with
module _ (t : List ℕ) (w : ℕ) (kept degrees levels others : List ℕ) (side : Side t w kept degrees levels others) (i : ℕ) (h : i < length kept) (j : ℕ) (l : j < length others) where
  pub row_counted : get_or kept i 0 ≡ 1 → get_or t (i * w + j) 0 ≤ get_or others j 0
  row_counted e =
      by_test (joined t w i j)
      (λ k. omega (arith, side.table.bits i j h l, ap bit (test_true (joined t w i j) k), side.counted j l, count_pos (λ (y : ℕ). joined t w y j && marked kept y) (length kept) i h (and_both (joined t w i j) (marked kept i) k (subst (λ (z : ℕ). T (eqb z 1)) (sym e) tt))))
      (λ n. omega (arith, side.table.bits i j h l, ap bit (test_false (joined t w i j) n)))

-- ---- the nodes below i

-- a cleared mark is counted no more
module _ (q : ℕ → Bool) (kept : List ℕ) (i n : ℕ) (h : i < n) (m : T (marked kept i)) where
  abbrev old : ℕ → Bool
  old k = q k && marked kept k

  abbrev new : ℕ → Bool
  new k = q k && marked (set kept i 0) k

  pub count_cleared : count n new + bit (q i) ≡ count n old
  count_cleared =
      by_test (q i)
      (λ t. omega (arith, ap bit (test_true (q i) t), count_but_one old new i n (λ k l d p. and_both (q k) (marked (set kept i 0) k) (and_left (q k) (marked kept k) p) (marked_stays kept i k d (and_right (q k) (marked kept k) p))), count_less old new i n (λ k l p. and_both (q k) (marked kept k) (and_left (q k) (marked (set kept i 0) k) p) (marked_less kept i k (and_right (q k) (marked (set kept i 0) k) p))) h (and_both (q i) (marked kept i) t m) (λ p. marked_cleared kept i (and_right (q i) (marked (set kept i 0) i) p))))
      (λ f. omega (arith, ap bit (test_false (q i) f), count_mono old new n (λ k l p. and_both (q k) (marked (set kept i 0) k) (and_left (q k) (marked kept k) p) (marked_stays kept i k (λ e. f (subst (λ (z : ℕ). T (q z)) e (and_left (q k) (marked kept k) p))) (and_right (q k) (marked kept k) p))), count_mono new old n (λ k l p. and_both (q k) (marked kept k) (and_left (q k) (marked (set kept i 0) k) p) (marked_less kept i k (and_right (q k) (marked (set kept i 0) k) p)))))

module _ (t : List ℕ) (w : ℕ) (kept₀ degrees levels₀ kept levels others : List ℕ) (limit level i r : ℕ) (swept : SideSwept t w kept₀ degrees levels₀ limit level i r kept levels others) (h : i < length kept₀) where
  -- the node is as it was at first
  same_kept : marked kept i ≡ marked kept₀ i
  same_kept = ap (λ (z : ℕ). eqb z 1) (swept.kept_rest i (omega arith))

  same_falls : falls kept degrees limit i ≡ falls kept₀ degrees limit i
  same_falls = ap (λ (b : Bool). b && ltb (get_or degrees i 0) limit) same_kept

  module _ (long : length levels ≡ length kept₀) (long' : length kept ≡ length kept₀) (r' : ℕ) (kept' levels' others' : List ℕ) (same : length others' ≡ length others) (visited : SideVisited t w kept degrees levels others limit level i r' kept' levels' others') where
    more_removed : r + r' ≡ count (i + 1) (falls kept₀ degrees limit)
    more_removed = omega (arith, swept.removed, visited.removed, count_more (falls kept₀ degrees limit) i, ap bit same_falls)

    -- where the node falls short
    swept_removed : falls kept degrees limit i ≡ true → SideSwept t w kept₀ degrees levels₀ limit level (i + 1) (r + r') kept' levels' others'
    swept_removed e =
        let k : kept' ≡ set kept i 0 = visited.kept_is ∙ rw e in
        let l : levels' ≡ set levels i level = visited.levels_is ∙ rw e in
        let m : T (marked kept i) = and_left (marked kept i) (ltb (get_or degrees i 0) limit) (subst T (sym e) tt) in
        let d : get_or degrees i 0 < limit = ltb→lt (get_or degrees i 0) limit (and_right (marked kept i) (ltb (get_or degrees i 0) limit) (subst T (sym e) tt)) in
        record {
          removed = more_removed;
          kept_is =
              below_more _ i
              (λ y b. ap (λ (z : List ℕ). marked z y) k ∙ marked_other kept i y (omega arith) ∙ swept.kept_is y b)
              (ap (λ (z : List ℕ). marked z i) k ∙ test_false (marked (set kept i 0) i) (marked_cleared kept i) ∙ sym (test_false (marked kept₀ i && leb limit (get_or degrees i 0)) (λ t. let z : ⊥ = omega (arith, leb→le limit (get_or degrees i 0) (and_right (marked kept₀ i) (leb limit (get_or degrees i 0)) t)) in z)));
          kept_rest = λ y b. ap (λ (z : List ℕ). get_or z y 0) k ∙ get_or-set_other kept i y 0 0 (omega arith) ∙ swept.kept_rest y (omega arith);
          bits = λ y b.
              elim (ℕ_discrete y i) [
                | yes q ↦ omega (arith, ap (λ (z : List ℕ). get_or z y 0) k, ap (λ (z : ℕ). get_or (set kept i 0) z 0) q, get_or-set_same kept i 0 0 (omega arith))
                | no n ↦ omega (arith, ap (λ (z : List ℕ). get_or z y 0) k, get_or-set_other kept i y 0 0 n, swept.bits y b)
              ];
          levels_is =
              below_more _ i
              (λ y b. ap (λ (z : List ℕ). get_or z y 0) l ∙ get_or-set_other levels i y level 0 (omega arith) ∙ swept.levels_is y b)
              (ap (λ (z : List ℕ). get_or z i 0) l ∙ get_or-set_same levels i level 0 (omega arith) ∙ rw (sym same_falls ∙ e));
          levels_rest = λ y b. ap (λ (z : List ℕ). get_or z y 0) l ∙ get_or-set_other levels i y level 0 (omega arith) ∙ swept.levels_rest y (omega arith);
          others_is = λ j b.
              omega (
                arith,
                visited.others_is j (omega arith),
                ap (λ (z : Bool). bit (z && joined t w i j)) e,
                swept.others_is j (omega arith),
                count_cleared (λ (y : ℕ). joined t w y j) kept i (length kept₀) h m,
                ap (λ (z : List ℕ). count (length kept₀) (λ (y : ℕ). joined t w y j && marked z y)) k,
              );
        }

    -- where it does not
    swept_kept : falls kept degrees limit i ≡ false → SideSwept t w kept₀ degrees levels₀ limit level (i + 1) (r + r') kept' levels' others'
    swept_kept e =
        let k : kept' ≡ kept = visited.kept_is ∙ rw e in
        let l : levels' ≡ levels = visited.levels_is ∙ rw e in
        record {
          removed = more_removed;
          kept_is =
              below_more _ i
              (λ y b. ap (λ (z : List ℕ). marked z y) k ∙ swept.kept_is y b)
              (ap (λ (z : List ℕ). marked z i) k ∙ same_kept ∙ kept_enough);
          kept_rest = λ y b. ap (λ (z : List ℕ). get_or z y 0) k ∙ swept.kept_rest y (omega arith);
          bits = λ y b. omega (arith, ap (λ (z : List ℕ). get_or z y 0) k, swept.bits y b);
          levels_is =
              below_more _ i
              (λ y b. ap (λ (z : List ℕ). get_or z y 0) l ∙ swept.levels_is y b)
              (ap (λ (z : List ℕ). get_or z i 0) l ∙ swept.levels_rest i (omega arith) ∙ rw (sym same_falls ∙ e));
          levels_rest = λ y b. ap (λ (z : List ℕ). get_or z y 0) l ∙ swept.levels_rest y (omega arith);
          others_is = λ j b.
              omega (
                arith,
                visited.others_is j (omega arith),
                ap (λ (z : Bool). bit (z && joined t w i j)) e,
                swept.others_is j (omega arith),
                ap (λ (z : List ℕ). count (length kept₀) (λ (y : ℕ). joined t w y j && marked z y)) k,
              );
        }
      where
        kept_enough : marked kept₀ i ≡ (marked kept₀ i && leb limit (get_or degrees i 0))
        kept_enough =
            test_ext (marked kept₀ i) (marked kept₀ i && leb limit (get_or degrees i 0))
            (λ t. elim (dec_lt (get_or degrees i 0) limit) [ yes d ↦ absurd (subst T (sym same_falls ∙ e) (and_both (marked kept₀ i) (ltb (get_or degrees i 0) limit) t (lt→ltb (get_or degrees i 0) limit d))) | no d ↦ and_both (marked kept₀ i) (leb limit (get_or degrees i 0)) t (le→leb limit (get_or degrees i 0) (omega arith)) ])
            (and_left (marked kept₀ i) (leb limit (get_or degrees i 0)))

    pub swept_more : SideSwept t w kept₀ degrees levels₀ limit level (i + 1) (r + r') kept' levels' others'
    swept_more =
        by_test (falls kept degrees limit i)
        (λ f. swept_removed (test_true (falls kept degrees limit i) f))
        (λ n. swept_kept (test_false (falls kept degrees limit i) n))

-- what a sweep has left can be swept on
module _ (t : List ℕ) (w : ℕ) (kept₀ degrees levels₀ others₀ kept levels others : List ℕ) (limit level i r : ℕ) (side : Side t w kept₀ degrees levels₀ others₀) (swept : SideSwept t w kept₀ degrees levels₀ limit level i r kept levels others) (k : length kept ≡ length kept₀) (l : length levels ≡ length levels₀) (o : length others ≡ length others₀) where
  pub side_again : Side t w kept degrees levels others
  side_again =
      record {
        table = record {
          wide = omega (arith, side.table.wide);
          size = subst (λ (n : ℕ). n * w ≤ length t) (sym k) side.table.size;
          bits = λ x j h b. side.table.bits x j (omega arith) (omega arith);
        };
        degrees_long = omega (arith, side.degrees_long);
        levels_long = omega (arith, side.levels_long);
        bits = λ x h. swept.bits x (omega arith);
        counted = λ j h. swept.others_is j h ∙ ap (λ (n : ℕ). count n (λ (y : ℕ). joined t w y j && marked kept y)) (sym k);
      }

pub swept_none : (t : List ℕ) (w : ℕ) (kept degrees levels others : List ℕ) (limit level : ℕ) → Side t w kept degrees levels others → SideSwept t w kept degrees levels limit level 0 0 kept levels others
unfolding count
swept_none t w kept degrees levels others limit level side =
    record {
      removed = refl;
      kept_is = λ y b. absurd (let z : ⊥ = omega arith in z);
      kept_rest = λ y b. refl;
      bits = side.bits;
      levels_is = λ y b. absurd (let z : ⊥ = omega arith in z);
      levels_rest = λ y b. refl;
      others_is = side.counted;
    }
