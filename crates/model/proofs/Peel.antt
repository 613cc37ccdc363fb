-- The laws of the peel: document 01's sentences on it, and that what is left is the largest set.
use mathlib.Core.Path.{◌≡◌, refl, sym, ap, ap₂, ◌∙◌, subst}
use mathlib.Core.Logic.{◌≢◌}
use mathlib.Core.Bool.{Bool, true, false, ◌&&◌, not}
use mathlib.Core.List.{List, [], ◌∷◌, ◌++◌}
use Prim.Native.Nat.{ℕ, zero, suc, ◌+◌, ◌-◌, ◌≤◌, ◌<◌}
use native.Mathlib.Omega.{arith}
use native.Mathlib.Decide.{dec_lt, dec_le, ℕ_discrete}
use lib.Dec.{T, ltb, eqb, ltb→lt, lt→ltb, T_not, not_T}
use borrow.Author.Tests.{lt-ltb, le-ltb}
use lib.ListN.{length, get_or, set, drop, replicate, get_or-replicate, get_or-eq_default, get_or-append, length-set}
use lib.Seq.{get_or-set_same, get_or-set_other, set_out, drop-set-lt}
use Rattle.model.specs.Count.{bit, count, some, lowest}
use Rattle.model.specs.Graph.{Graph, nodes, degree, Inside, Meets, Largest, marked, short, settled, removals, without, peel}
use Rattle.model.specs.CoverLaws.{members, AllOnes}
use Rattle.model.specs.PeelLaws.{LowestShort, Dropped, PeelLaws}
use Rattle.model.proofs.Count.{by_test, test_true, test_false, test_ext, and_left, and_right, and_both, count_all, count_mono, count_but_one, count_less, some_holds, some_witness, some_ext, count_ext, count_without, lowest_least, lowest_passes, lowest_lt}

-- ---- degree

module _ (g : Graph) (s : ℕ → Bool) (x : ℕ) where
  pub degree_operator : x < g.operators → degree g s x ≡ count g.rides (λ v. g.cleared x v && s (g.operators + v))
  unfolding degree
  degree_operator h = rw (lt-ltb x g.operators h, degree)

  pub degree_ride : g.operators ≤ x → degree g s x ≡ count g.operators (λ u. g.cleared u (x - g.operators) && s u)
  unfolding degree
  degree_ride h = rw (le-ltb x g.operators h, degree)

-- degrees grow with the set
module _ (g : Graph) (s t : ℕ → Bool) (more : Inside g s t) (x : ℕ) where
  more_and : (c : Bool) (y : ℕ) → y < nodes g → T (c && s y) → T (c && t y)
  more_and c y h b = and_both c (t y) (and_left c (s y) b) (more y h (and_right c (s y) b))

  pub degree_mono : degree g s x ≤ degree g t x
  degree_mono =
      elim (dec_lt x g.operators) [
        | yes h ↦
            omega (
              arith,
              degree_operator g s x h,
              degree_operator g t x h,
              count_mono
                  (λ v. g.cleared x v && s (g.operators + v))
                  (λ v. g.cleared x v && t (g.operators + v))
                  g.rides
                  (λ v l. more_and (g.cleared x v) (g.operators + v) (omega arith)),
            )
        | no h ↦
            omega (
              arith,
              degree_ride g s x (omega arith),
              degree_ride g t x (omega arith),
              count_mono
                  (λ u. g.cleared u (x - g.operators) && s u)
                  (λ u. g.cleared u (x - g.operators) && t u)
                  g.operators
                  (λ u l. more_and (g.cleared u (x - g.operators)) u (omega arith)),
            )
      ]

bit_and : (a b : Bool) → T b → bit (a && b) ≡ bit a
bit_and true true t = refl
bit_and true false t = absurd t
bit_and false b t = refl

-- and depend on the nodes of the set alone
pub degree_ext : (g : Graph) (s t : ℕ → Bool) → ((y : ℕ) → y < nodes g → s y ≡ t y) → (x : ℕ) → degree g s x ≡ degree g t x
degree_ext g s t same x =
    omega (
      arith,
      degree_mono g s t (λ y h. subst T (same y h)) x,
      degree_mono g t s (λ y h. subst T (sym (same y h))) x,
    )

-- where x leaves the set, the degrees on the other side lose their clearance, and those on its own side stay
module _ (g : Graph) (s t : ℕ → Bool) (x : ℕ) (same : (y : ℕ) → y ≢ x → s y ≡ t y) where
  pub degree_lost_ride : T (s x) → (T (t x) → ⊥) → x < g.operators → (v : ℕ) → degree g s (g.operators + v) ≡ degree g t (g.operators + v) + bit (g.cleared x v)
  degree_lost_ride m n h v =
      let w : ℕ = g.operators + v - g.operators in
      let e : w ≡ v = omega arith in
      omega (
        arith,
        degree_ride g s (g.operators + v) (omega arith),
        degree_ride g t (g.operators + v) (omega arith),
        count_without
            (λ u. g.cleared u w && s u)
            (λ u. g.cleared u w && t u)
            x
            g.operators
            (λ u l d. ap (λ (b : Bool). g.cleared u w && b) (same u d))
            h
            (λ k. n (and_right (g.cleared x w) (t x) k)),
        bit_and (g.cleared x w) (s x) m,
        ap (λ (z : ℕ). bit (g.cleared x z)) e,
      )

  pub degree_lost_operator : T (s x) → (T (t x) → ⊥) → (v : ℕ) → x ≡ g.operators + v → v < g.rides → (u : ℕ) → u < g.operators → degree g s u ≡ degree g t u + bit (g.cleared u v)
  degree_lost_operator m n v e h u l =
      omega (
        arith,
        degree_operator g s u l,
        degree_operator g t u l,
        count_without
            (λ w. g.cleared u w && s (g.operators + w))
            (λ w. g.cleared u w && t (g.operators + w))
            v
            g.rides
            (λ w b d. ap (λ (z : Bool). g.cleared u w && z) (same (g.operators + w) (λ k. d (omega arith))))
            h
            (λ k. n (subst (λ (z : ℕ). T (t z)) (sym e) (and_right (g.cleared u v) (t (g.operators + v)) k))),
        bit_and (g.cleared u v) (s (g.operators + v)) (subst (λ (z : ℕ). T (s z)) e m),
      )

  pub degree_same_operator : x < g.operators → (u : ℕ) → u < g.operators → degree g s u ≡ degree g t u
  degree_same_operator h u l =
      omega (
        arith,
        degree_operator g s u l,
        degree_operator g t u l,
        count_ext
            (λ w. g.cleared u w && s (g.operators + w))
            (λ w. g.cleared u w && t (g.operators + w))
            g.rides
            (λ w b. ap (λ (z : Bool). g.cleared u w && z) (same (g.operators + w) (omega arith))),
      )

  pub degree_same_ride : g.operators ≤ x → (y : ℕ) → g.operators ≤ y → degree g s y ≡ degree g t y
  degree_same_ride h y l =
      omega (
        arith,
        degree_ride g s y l,
        degree_ride g t y l,
        count_ext
            (λ u. g.cleared u (y - g.operators) && s u)
            (λ u. g.cleared u (y - g.operators) && t u)
            g.operators
            (λ u b. ap (λ (z : Bool). g.cleared u (y - g.operators) && z) (same u (omega arith))),
      )

-- ---- marks

module _ (s : List ℕ) (x : ℕ) where
  getD_cleared : get_or (set s x 0) x 0 ≡ 0
  getD_cleared =
      elim (dec_lt x (length s)) [
        | yes h ↦ get_or-set_same s x 0 0 h
        | no h ↦ (let l : length s ≤ x = omega arith in ap (λ (z : List ℕ). get_or z x 0) (set_out s x 0 l) ∙ get_or-eq_default s 0 l)
      ]

  getD_less : (y : ℕ) → get_or (set s x 0) y 0 ≤ get_or s y 0
  getD_less y = elim (ℕ_discrete y x) [ yes e ↦ omega (arith, getD_cleared, ap (λ (z : ℕ). get_or (set s x 0) z 0) e) | no n ↦ omega (arith, get_or-set_other s x y 0 0 n) ]

  pub marked_cleared : T (marked (set s x 0) x) → ⊥
  marked_cleared t = subst (λ (z : ℕ). T (eqb z 1)) getD_cleared t

  pub marked_other : (y : ℕ) → y ≢ x → marked (set s x 0) y ≡ marked s y
  marked_other y n = ap (λ (z : ℕ). eqb z 1) (get_or-set_other s x y 0 0 n)

  -- clearing a mark takes nobody in
  pub marked_less : (y : ℕ) → T (marked (set s x 0) y) → T (marked s y)
  marked_less y t =
      elim (ℕ_discrete y x) [
        | yes e ↦ absurd (marked_cleared (subst (λ (z : ℕ). T (marked (set s x 0) z)) e t))
        | no n ↦ subst T (marked_other y n) t
      ]

  -- and nobody but x out
  pub marked_stays : (y : ℕ) → y ≢ x → T (marked s y) → T (marked (set s x 0) y)
  marked_stays y n t = subst T (sym (marked_other y n)) t

-- ---- falling short

module _ (g : Graph) (limit : ℕ → ℕ) (s : List ℕ) where
  pub short_marked : (x : ℕ) → T (short g limit s x) → T (marked s x)
  unfolding short
  short_marked x t = and_left (marked s x) _ t

  pub short_lacks : (x : ℕ) → T (short g limit s x) → degree g (marked s) x < limit x
  unfolding short
  short_lacks x t = ltb→lt (degree g (marked s) x) (limit x) (and_right (marked s x) (ltb (degree g (marked s) x) (limit x)) t)

  pub short_holds : (x : ℕ) → T (marked s x) → degree g (marked s) x < limit x → T (short g limit s x)
  unfolding short
  short_holds x m h = and_both (marked s x) (ltb (degree g (marked s) x) (limit x)) m (lt→ltb (degree g (marked s) x) (limit x) h)

  -- who falls short in s is in no set inside s that meets the limit
  pub short_out : (t : ℕ → Bool) → Inside g t (marked s) → Meets g limit t → (x : ℕ) → x < nodes g → T (short g limit s x) → T (t x) → ⊥
  short_out t less meets x h f m = omega (arith, meets x h m, degree_mono g t (marked s) less x, short_lacks x f)

  pub settled_nobody : T (settled g limit s) → (x : ℕ) → x < nodes g → T (short g limit s x) → ⊥
  unfolding settled
  settled_nobody n x h t = T_not (some (nodes g) (short g limit s)) n (some_holds (short g limit s) (nodes g) x h t)

  pub settled_meets : T (settled g limit s) → Meets g limit (marked s)
  settled_meets n x h m =
      elim (dec_le (limit x) (degree g (marked s) x)) [
        | yes l ↦ l
        | no l ↦ absurd (settled_nobody n x h (short_holds x m (omega arith)))
      ]

  pub unsettled_some : (T (settled g limit s) → ⊥) → T (some (nodes g) (short g limit s))
  unfolding settled
  unsettled_some n = by_test (some (nodes g) (short g limit s)) (λ t. t) (λ f. absurd (n (not_T (some (nodes g) (short g limit s)) f)))

  pub unsettled_lowest : (T (settled g limit s) → ⊥) → LowestShort g limit s (lowest (nodes g) (short g limit s))
  unsettled_lowest n =
      let w = some_witness (short g limit s) (nodes g) (unsettled_some n) in
      let l = lowest_lt (short g limit s) (nodes g) w.0 w.1 w.2 in
      record {
        node = l;
        falls = lowest_passes (short g limit s) (nodes g) l;
        lowest = lowest_least (short g limit s) (nodes g);
      }

-- ---- the peel, step by step

-- what holds where a peel ends, and of a step if it holds of the rest, holds of every peel
module _ (g : Graph) (limit : ℕ → ℕ) (P : ℕ → List ℕ → List ℕ → Type 0) (spent : (s : List ℕ) → P 0 s []) (done : (f : ℕ) (s : List ℕ) → T (settled g limit s) → P (suc f) s []) (step : (f : ℕ) (s : List ℕ) (x : ℕ) (xs : List ℕ) → LowestShort g limit s x → P f (set s x 0) xs → P (suc f) s (x ∷ xs)) where
  removals_ind : (f : ℕ) (s : List ℕ) → P f s (removals g limit f s)
  unfolding removals
  removals_ind zero s = spent s
  removals_ind (suc f) s =
      by_test (settled g limit s)
      (λ t. rw (test_true (settled g limit s) t, removals) (done f s t))
      (λ n. rw (test_false (settled g limit s) n, removals) (step f s (lowest (nodes g) (short g limit s)) (removals g limit f (set s (lowest (nodes g) (short g limit s)) 0)) (unsettled_lowest g limit s n) (removals_ind f (set s (lowest (nodes g) (short g limit s)) 0))))

module _ (g : Graph) (limit : ℕ → ℕ) where
  peel_drops : (f : ℕ) (s : List ℕ) → Dropped g limit s (removals g limit f s)
  peel_drops = removals_ind g limit (λ f s xs. Dropped g limit s xs) (λ s. tt) (λ f s t. tt) (λ f s x xs l d. (l, d))

  peel_allowed : (f : ℕ) (s : List ℕ) → length (removals g limit f s) ≤ f
  peel_allowed =
      removals_ind g limit (λ f s xs. length xs ≤ f) (λ s. omega arith) (λ f s t. omega arith) (λ f s x xs l h. omega arith)

  -- a step clears one mark
  members_step : (s : List ℕ) (x : ℕ) → LowestShort g limit s x → members g (set s x 0) + 1 ≡ members g s
  members_step s x l =
      omega (
        arith,
        count_but_one (marked s) (marked (set s x 0)) x (nodes g) (λ y h n. marked_stays s x y n),
        count_less
            (marked s)
            (marked (set s x 0))
            x
            (nodes g)
            (λ y h. marked_less s x y)
            l.node
            (short_marked g limit s x l.falls)
            (marked_cleared s x),
      )

  peel_steps : (f : ℕ) (s : List ℕ) → members g (peel g limit f s) + length (removals g limit f s) ≡ members g s
  unfolding peel without
  peel_steps =
      removals_ind g limit
      (λ f s xs. members g (without s xs) + length xs ≡ members g s)
      (λ s. omega arith)
      (λ f s t. omega arith)
      (λ f s x xs l e. omega (arith, members_step s x l))

  -- where nobody is marked, nobody falls short
  none_settled : (s : List ℕ) → members g s ≤ 0 → T (settled g limit s)
  none_settled s h = by_test (settled g limit s) (λ t. t) (λ n. absurd (let z : ⊥ = omega (arith, members_step s (lowest (nodes g) (short g limit s)) (unsettled_lowest g limit s n)) in z))

  peel_settles : (f : ℕ) (s : List ℕ) → members g s ≤ f → T (settled g limit (peel g limit f s))
  unfolding peel without
  peel_settles =
      removals_ind g limit
      (λ f s xs. members g s ≤ f → T (settled g limit (without s xs)))
      none_settled
      (λ f s t h. t)
      (λ f s x xs l rest h. rest (omega (arith, members_step s x l)))

  peel_all_taken : (f : ℕ) (s : List ℕ) → T (not (settled g limit (peel g limit f s))) → length (removals g limit f s) ≡ f
  unfolding peel without
  peel_all_taken =
      removals_ind g limit
      (λ f s xs. T (not (settled g limit (without s xs))) → length xs ≡ f)
      (λ s n. refl)
      (λ f s t n. absurd (T_not (settled g limit s) n t))
      (λ f s x xs l rest n. ap suc (rest n))

  -- a peel takes nobody in
  pub peel_inside : (f : ℕ) (s : List ℕ) (y : ℕ) → T (marked (peel g limit f s) y) → T (marked s y)
  unfolding peel without
  peel_inside =
      removals_ind g limit
      (λ f s xs. (y : ℕ) → T (marked (without s xs) y) → T (marked s y))
      (λ s y t. t)
      (λ f s n y t. t)
      (λ f s x xs l rest y t. marked_less s x y (rest y t))

  -- nor raises a mark
  pub peel_least : (f : ℕ) (s : List ℕ) (y : ℕ) → get_or (peel g limit f s) y 0 ≤ get_or s y 0
  unfolding peel without
  peel_least =
      removals_ind g limit
      (λ f s xs. (y : ℕ) → get_or (without s xs) y 0 ≤ get_or s y 0)
      (λ s y. omega arith)
      (λ f s n y. omega arith)
      (λ f s x xs l rest y. omega (arith, rest y, getD_less s x y))

  -- and keeps each set that meets the limit
  peel_keeps : (t : ℕ → Bool) → Meets g limit t → (f : ℕ) (s : List ℕ) → Inside g t (marked s) → Inside g t (marked (peel g limit f s))
  unfolding peel without
  peel_keeps t meets =
      removals_ind g limit
      (λ f s xs. Inside g t (marked s) → Inside g t (marked (without s xs)))
      (λ s i. i)
      (λ f s n i. i)
      (λ f s x xs l rest i. rest (λ y h m. marked_stays s x y (λ e. short_out g limit s t i meets x l.node l.falls (subst (λ (z : ℕ). T (t z)) e m)) (i y h m)))

  peel_tail : (f : ℕ) (s : List ℕ) → drop (nodes g) (peel g limit f s) ≡ drop (nodes g) s
  unfolding peel without
  peel_tail =
      removals_ind g limit
      (λ f s xs. drop (nodes g) (without s xs) ≡ drop (nodes g) s)
      (λ s. refl)
      (λ f s t. refl)
      (λ f s x xs l rest. rest ∙ drop-set-lt (nodes g) s x 0 l.node)

  peel_largest : (f : ℕ) (s : List ℕ) → T (settled g limit (peel g limit f s)) → Largest g limit (marked s) (marked (peel g limit f s))
  peel_largest f s n =
      record {
        inside = λ y h. peel_inside f s y;
        meets = settled_meets g limit (peel g limit f s) n;
        largest = λ t i m. peel_keeps t m f s i;
      }

-- ---- a peel, one step after the other

module _ (g : Graph) (limit : ℕ → ℕ) where
  -- the steps of a peel and the marks that it leaves
  abbrev Leaves : ℕ → List ℕ → ℕ → List ℕ → Type 0
  Leaves f s steps marks = (length (removals g limit f s) ≡ steps) × (peel g limit f s ≡ marks)

  pub peel_spent : (s : List ℕ) → Leaves 0 s 0 s
  unfolding removals without peel
  peel_spent s = (refl, refl)

  pub peel_settled : (f : ℕ) (s : List ℕ) → T (settled g limit s) → Leaves f s 0 s
  unfolding removals without peel
  peel_settled zero s t = (refl, refl)
  peel_settled (suc f) s t = rw (test_true (settled g limit s) t, removals, without) (refl, refl)

  pub peel_step : (f : ℕ) (s : List ℕ) (x : ℕ) → lowest (nodes g) (short g limit s) ≡ x → (T (settled g limit s) → ⊥) → Leaves (suc f) s (suc (length (removals g limit f (set s x 0)))) (peel g limit f (set s x 0))
  unfolding removals without peel
  peel_step f s x e n = rw (← e, test_false (settled g limit s) n, removals, without) (refl, refl)

  pub settled_lowest : (s : List ℕ) → nodes g ≤ lowest (nodes g) (short g limit s) → T (settled g limit s)
  settled_lowest s h = by_test (settled g limit s) (λ t. t) (λ n. absurd (let z : ⊥ = omega (arith, (unsettled_lowest g limit s n).node) in z))

  pub unsettled_lowest_lt : (s : List ℕ) → lowest (nodes g) (short g limit s) < nodes g → T (settled g limit s) → ⊥
  unsettled_lowest_lt s h t = settled_nobody g limit s t (lowest (nodes g) (short g limit s)) h (lowest_passes (short g limit s) (nodes g) h)

  -- the lowest that falls short is marked
  pub lowest_marked : (s : List ℕ) (x : ℕ) → x ≡ lowest (nodes g) (short g limit s) → x < nodes g → T (marked s x)
  lowest_marked s x e h = rw e (short_marked g limit s (lowest (nodes g) (short g limit s)) (lowest_passes (short g limit s) (nodes g) (omega arith)))

  pub length_peel : (f : ℕ) (s : List ℕ) → length (peel g limit f s) ≡ length s
  unfolding peel without
  length_peel =
      removals_ind g limit
      (λ f s xs. length (without s xs) ≡ length s)
      (λ s. refl)
      (λ f s t. refl)
      (λ f s x xs l rest. rest ∙ length-set s x 0)

-- ---- marks past the nodes count for nothing

module _ (g : Graph) (limit : ℕ → ℕ) (t : List ℕ) where
  short_append : (s : List ℕ) → nodes g ≤ length s → (x : ℕ) → x < nodes g → short g limit (s ++ t) x ≡ short g limit s x
  unfolding short
  short_append s h x l =
      ap₂ (λ (b : Bool) (d : ℕ). b && ltb d (limit x)) (same x l) (degree_ext g (marked (s ++ t)) (marked s) same x)
    where
      same : (y : ℕ) → y < nodes g → marked (s ++ t) y ≡ marked s y
      same y k = ap (λ (z : ℕ). eqb z 1) (get_or-append s t 0 y (omega arith))

  pub settled_append : (s : List ℕ) → nodes g ≤ length s → settled g limit (s ++ t) ≡ settled g limit s
  unfolding settled
  settled_append s h = ap not (some_ext (short g limit (s ++ t)) (short g limit s) (nodes g) (short_append s h))

-- ---- from all ones, and the laws together

pub all_ones : (g : Graph) → AllOnes g (replicate (nodes g) 1)
all_ones g x h = get_or-replicate (nodes g) x 1 0 h

-- everybody is marked by all ones
pub all_marked : (g : Graph) (s : List ℕ) → AllOnes g s → (x : ℕ) → x < nodes g → T (marked s x)
all_marked g s ones x h = subst (λ (z : ℕ). T (eqb z 1)) (sym (ones x h)) tt

largest_only : (g : Graph) (limit : ℕ → ℕ) (start s t : ℕ → Bool) → Largest g limit start s → Largest g limit start t → (x : ℕ) → x < nodes g → s x ≡ t x
largest_only g limit start s t ls lt x h =
    test_ext (s x) (t x) (lt.largest s ls.inside ls.meets x h) (ls.largest t lt.inside lt.meets x h)

pub peel_laws : PeelLaws
peel_laws =
    record {
      drops = peel_drops;
      allowed = peel_allowed;
      settles = peel_settles;
      largest = peel_largest;
      only = largest_only;
      unsettled = λ g limit f s. (
        λ n. (peel_all_taken g limit f s n, unsettled_some g limit (peel g limit f s) (T_not (settled g limit (peel g limit f s)) n)),
        λ k. not_T (settled g limit (peel g limit f s)) (λ t. some_nobody g limit f s t k.1),
      );
      steps = peel_steps;
      steps_from_all = λ g limit f s ones. omega (arith, peel_steps g limit f s, count_all (marked s) (nodes g) (all_marked g s ones));
      tail = peel_tail;
    }
  where
    some_nobody : (g : Graph) (limit : ℕ → ℕ) (f : ℕ) (s : List ℕ) → T (settled g limit (peel g limit f s)) → T (some (nodes g) (short g limit (peel g limit f s))) → ⊥
    some_nobody g limit f s t k = let w = some_witness (short g limit (peel g limit f s)) (nodes g) k in settled_nobody g limit (peel g limit f s) t w.0 w.1 w.2
