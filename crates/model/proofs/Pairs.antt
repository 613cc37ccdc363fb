-- Pair arrays as the ascending enumeration of a clearance relation: the one that is in range, strictly ascending and lists just its pairs.
--
use mathlib.Core.Path.{◌≡◌, refl, sym, ap, ap₂, ◌∙◌, subst, subst₂}
use mathlib.Core.Bool.{Bool, true, false, ◌&&◌, ◌||◌}
use mathlib.Core.List.{List, [], ◌∷◌, ◌++◌, map, map-append}
use Prim.Native.Nat.{ℕ, zero, suc, ◌+◌, ◌-◌, ◌*◌, ◌/◌, ◌%◌, ◌≤◌, ◌<◌}
use native.Mathlib.Nat.{mul-zero, mod-lt, div-lt_iff_lt-mul, div-add-mod'}
use native.Mathlib.Omega.{arith}
use native.Mathlib.Decide.{dec_lt, ℕ_discrete}
use lib.Dec.{T, ltb, leb, eqb, ltb→lt, lt→ltb, leb→le, le→leb, eqb→eq, eqb_refl, T_not, not_T}
use lib.Arith.{digits_lt, digits_div, digits_mod}
use lib.ListN.{length, get_or, take, drop, replicate, length-append, length-map, length-replicate, take-append-drop, get_or-append}
use lib.Seq.{get_or-append_seam, get_or-take, length-take-le, take-suc, ext_get_or}
use Rattle.model.specs.declared.Head.{Head}
use Rattle.model.specs.Count.{bit, count, values, rows, passing}
use Rattle.model.specs.Graph.{Graph}
use Rattle.model.specs.Layout.{over, pair_at, listed, sized, graph}
use Rattle.model.specs.Refusal.{before, unordered, out_of_range, misplaced, refused_5}
use Rattle.model.specs.Contents.{pair_numbers, padded}
use Rattle.model.specs.CoverLaws.{changed}
use Rattle.model.proofs.Count.{by_test, test_true, test_false, test_ext, and_left, and_right, and_both, or_left, or_right, or_cases, count_le, some_holds, some_witness, some_ext, length_values, getD_values, values_ext, length_rows, get_d_rows}
use Rattle.model.proofs.Store.{over_is}

-- ---- the numbers that pass a test

-- f 0 .. f (n - 1) are those of 0 .. k - 1 that pass the test, ascending
pub record Enumerates (p : ℕ → Bool) (k n : ℕ) (f : ℕ → ℕ) : Type 0 where
  pub below : (i : ℕ) → i < n → f i < k
  pub ascending : (i j : ℕ) → i < j → j < n → f i < f j
  pub passes : (i : ℕ) → i < n → T (p (f i))
  pub found : (x : ℕ) → x < k → T (p x) → (i : ℕ) × (i < n) × (f i ≡ x)

-- a function that rises at each step is ascending
pub ascending_steps : (f : ℕ → ℕ) (n : ℕ) → ((i : ℕ) → suc i < n → f i < f (suc i)) → (i j : ℕ) → i < j → j < n → f i < f j
ascending_steps f n up i zero h l = absurd (let z : ⊥ = omega arith in z)
ascending_steps f n up i (suc j) h l =
    elim (dec_lt i j) [
      | yes b ↦ omega (arith, ascending_steps f n up i j b (omega arith), up j l)
      | no b ↦ (let e : i ≡ j = omega arith in omega (arith, up j l, ap f e))
    ]

module _ (p : ℕ → Bool) where
  pub passing_in : (k : ℕ) → T (p k) → passing (suc k) p ≡ passing k p ++ (k ∷ [])
  unfolding passing
  passing_in k t = rw (test_true (p k) t, passing)

  pub passing_out : (k : ℕ) → (T (p k) → ⊥) → passing (suc k) p ≡ passing k p
  unfolding passing
  passing_out k n = rw (test_false (p k) n, passing)

  pub length_passing : (k : ℕ) → length (passing k p) ≡ count k p
  unfolding count passing
  length_passing zero = refl
  length_passing (suc k) =
      by_test (p k)
      (λ t. omega (arith, ap length (passing_in k t), length-append (passing k p) (k ∷ []), length_passing k, ap bit (test_true (p k) t)))
      (λ n. omega (arith, ap length (passing_out k n), length_passing k, ap bit (test_false (p k) n)))

  -- ---- an enumeration is the list of the numbers that pass

  -- without its last number, where that is the last of all
  enumerates_init : (k n : ℕ) (f : ℕ → ℕ) → Enumerates p (suc k) (suc n) f → f n ≡ k → Enumerates p k n f
  enumerates_init k n f e l =
      record {
        below = λ i h. omega (arith, e.ascending i n h (omega arith));
        ascending = λ i j h b. e.ascending i j h (omega arith);
        passes = λ i h. e.passes i (omega arith);
        found = λ x h t. let w = e.found x (omega arith) t in (w.0, elim (ℕ_discrete w.0 n) [ yes q ↦ absurd (let z : ⊥ = omega (arith, ap f q, w.2) in z) | no q ↦ omega (arith, w.1) ], w.2);
      }

  enumerates_less : (k n : ℕ) (f : ℕ → ℕ) → Enumerates p (suc k) n f → (T (p k) → ⊥) → Enumerates p k n f
  enumerates_less k n f e out =
      record {
        below = λ i h. elim (ℕ_discrete (f i) k) [ yes q ↦ absurd (out (subst (λ (z : ℕ). T (p z)) q (e.passes i h))) | no q ↦ omega (arith, e.below i h) ];
        ascending = e.ascending;
        passes = e.passes;
        found = λ x h. e.found x (omega arith);
      }

  -- where the largest number passes, it is enumerated last
  enumerates_last : (k n : ℕ) (f : ℕ → ℕ) → Enumerates p (suc k) (suc n) f → T (p k) → f n ≡ k
  enumerates_last k n f e t =
      let w = e.found k (omega arith) t in
      elim (dec_lt w.0 n) [
        | yes h ↦ absurd (let z : ⊥ = omega (arith, w.2, e.ascending w.0 n h (omega arith), e.below n (omega arith)) in z)
        | no h ↦ (let q : w.0 ≡ n = omega (arith, w.1) in sym (ap f q) ∙ w.2)
      ]

  pub enumerates_values : (k n : ℕ) (f : ℕ → ℕ) → Enumerates p k n f → values n f ≡ passing k p
  unfolding values passing
  enumerates_values zero zero f e = refl
  enumerates_values zero (suc n) f e = absurd (let z : ⊥ = omega (arith, e.below 0 (omega arith)) in z)
  enumerates_values (suc k) zero f e =
      by_test (p k)
      (λ t. absurd (let z : ⊥ = omega (arith, (e.found k (omega arith) t).1) in z))
      (λ o. enumerates_values k zero f (enumerates_less k zero f e o) ∙ sym (passing_out k o))
  enumerates_values (suc k) (suc n) f e =
      by_test (p k)
      (λ t. let l = enumerates_last k n f e t in ap₂ (λ (xs : List ℕ) (y : ℕ). xs ++ (y ∷ [])) (enumerates_values k n f (enumerates_init k n f e l)) l ∙ sym (passing_in k t))
      (λ o. enumerates_values k (suc n) f (enumerates_less k (suc n) f e o) ∙ sym (passing_out k o))

  -- ---- the list of the numbers that pass is an enumeration

  enumerates_ext : (k n m : ℕ) (f q : ℕ → ℕ) → n ≡ m → ((i : ℕ) → i < n → f i ≡ q i) → Enumerates p k n f → Enumerates p k m q
  enumerates_ext k n m f q l s e =
      record {
        below = λ i h. omega (arith, e.below i (omega arith), s i (omega arith));
        ascending = λ i j h b. omega (arith, e.ascending i j h (omega arith), s i (omega arith), s j (omega arith));
        passes = λ i h. subst (λ (z : ℕ). T (p z)) (s i (omega arith)) (e.passes i (omega arith));
        found = λ x h t. let w = e.found x h t in (w.0, omega (arith, w.1), sym (s w.0 w.1) ∙ w.2);
      }

  enumerates_snoc : (k n : ℕ) (f : ℕ → ℕ) → Enumerates p k n f → T (p k) → f n ≡ k → Enumerates p (suc k) (suc n) f
  enumerates_snoc k n f e t l =
      record {
        below = λ i h. elim (dec_lt i n) [ yes b ↦ omega (arith, e.below i b) | no b ↦ (let q : i ≡ n = omega arith in omega (arith, ap f q)) ];
        ascending = λ i j h b. elim (dec_lt j n) [ yes d ↦ e.ascending i j h d | no d ↦ (let q : j ≡ n = omega arith in omega (arith, ap f q, e.below i (omega arith))) ];
        passes = λ i h. elim (dec_lt i n) [ yes b ↦ e.passes i b | no b ↦ subst (λ (z : ℕ). T (p z)) (sym l ∙ ap f (let q : n ≡ i = omega arith in q)) t ];
        found = λ x h s. elim (dec_lt x k) [ yes b ↦ (let w = e.found x b s in (w.0, omega (arith, w.1), w.2)) | no b ↦ (n, omega arith, l ∙ (let q : k ≡ x = omega arith in q)) ];
      }

  enumerates_more : (k n : ℕ) (f : ℕ → ℕ) → Enumerates p k n f → (T (p k) → ⊥) → Enumerates p (suc k) n f
  enumerates_more k n f e out =
      record {
        below = λ i h. omega (arith, e.below i h);
        ascending = e.ascending;
        passes = e.passes;
        found = λ x h t. elim (dec_lt x k) [ yes b ↦ e.found x b t | no b ↦ absurd (out (subst (λ (z : ℕ). T (p z)) (let q : x ≡ k = omega arith in q) t)) ];
      }

  pub passing_enumerates : (k : ℕ) → Enumerates p k (count k p) (λ i. get_or (passing k p) i 0)
  unfolding count passing
  passing_enumerates zero =
      record {
        below = λ i h. absurd (let z : ⊥ = omega arith in z);
        ascending = λ i j h b. absurd (let z : ⊥ = omega arith in z);
        passes = λ i h. absurd (let z : ⊥ = omega arith in z);
        found = λ x h t. absurd (let z : ⊥ = omega arith in z);
      }
  passing_enumerates (suc k) =
      let xs = passing k p in
      by_test (p k)
      (λ t. let at : ℕ → ℕ = λ i. get_or (xs ++ (k ∷ [])) i 0 in
      enumerates_ext (suc k) (suc (count k p)) (count (suc k) p) at (λ i. get_or (passing (suc k) p) i 0)
      (omega (arith, ap bit (test_true (p k) t)))
      (λ i h. ap (λ (l : List ℕ). get_or l i 0) (sym (passing_in k t)))
      (enumerates_snoc k (count k p) at
      (enumerates_ext k (count k p) (count k p) (λ i. get_or xs i 0) at refl (λ i h. sym (get_or-append xs (k ∷ []) 0 i (omega (arith, length_passing k)))) (passing_enumerates k))
      t
      (ap at (sym (length_passing k)) ∙ get_or-append_seam xs k [] 0)))
      (λ o. enumerates_ext (suc k) (count k p) (count (suc k) p) (λ i. get_or xs i 0) (λ i. get_or (passing (suc k) p) i 0)
      (omega (arith, ap bit (test_false (p k) o)))
      (λ i h. ap (λ (l : List ℕ). get_or l i 0) (sym (passing_out k o)))
      (enumerates_more k (count k p) (λ i. get_or xs i 0) (passing_enumerates k) o))

pub passing_ext : (p q : ℕ → Bool) (k : ℕ) → ((x : ℕ) → x < k → p x ≡ q x) → passing k p ≡ passing k q
unfolding passing
passing_ext p q zero s = refl
passing_ext p q (suc k) s =
    ap₂ (λ (b : Bool) (xs : List ℕ). elim b [ true ↦ xs ++ (k ∷ []) | false ↦ xs ]) (s k (omega arith)) (passing_ext p q k (λ x h. s x (omega arith)))

-- ---- pairs and their numbers

-- the number of a pair is below the number of places, and the other way round
product_pos : (a b x : ℕ) → x < a * b → 0 < b
product_pos a b x h =
    elim (dec_lt 0 b) [
      | yes p ↦ p
      | no p ↦ (let e : b ≡ 0 = omega arith in absurd (let z : ⊥ = omega (arith, ap (λ (c : ℕ). a * c) e, mul-zero a) in z))
    ]

pub number_operator : (a b x : ℕ) → x < a * b → x / b < a
number_operator a b x h = (div-lt_iff_lt-mul (product_pos a b x h)).1 h

pub number_ride : (a b x : ℕ) → x < a * b → x % b < b
number_ride a b x h = mod-lt x (product_pos a b x h)

-- pairs in range are ordered as their numbers are
pub before_number : (b u v u' v' : ℕ) → v < b → T (before u v u' v') → u * b + v < u' * b + v'
before_number b u v u' v' l t =
    or_cases (ltb u u') (eqb u u' && ltb v v') t
    (λ s. omega (arith, digits_lt (ltb→lt u u' s) l))
    (λ s. let e = eqb→eq u u' (and_left (eqb u u') (ltb v v') s) in omega (arith, ap (λ (x : ℕ). x * b) e, ltb→lt v v' (and_right (eqb u u') (ltb v v') s)))

pub number_before : (b u v u' v' : ℕ) → v' < b → u * b + v < u' * b + v' → T (before u v u' v')
number_before b u v u' v' l h =
    elim (dec_lt u u') [
      | yes s ↦ or_left (ltb u u') (eqb u u' && ltb v v') (lt→ltb u u' s)
      | no s ↦
          elim (ℕ_discrete u u') [
            | yes e ↦ or_right (ltb u u') (eqb u u' && ltb v v') (and_both (eqb u u') (ltb v v') (subst (λ (x : ℕ). T (eqb u x)) e (eqb_refl u)) (lt→ltb v v' (omega (arith, ap (λ (x : ℕ). x * b) e))))
            | no d ↦ absurd (let z : ⊥ = omega (arith, digits_lt {q = u'} {m = u} (let k : u' < u = omega arith in k) l) in z)
          ]
    ]

-- pairs in range with the same number are the same
pub number_same : (b u v u' v' : ℕ) → v < b → v' < b → u * b + v ≡ u' * b + v' → (u ≡ u') × (v ≡ v')
number_same b u v u' v' l l' e =
    (sym (digits_div u l) ∙ ap (λ (x : ℕ). x / b) e ∙ digits_div u' l', sym (digits_mod u l) ∙ ap (λ (x : ℕ). x % b) e ∙ digits_mod u' l')

-- a list with these values at the pairs' places, and no others, is made of these rows
pub rows_only : (k w : ℕ) (f : ℕ → ℕ → ℕ) (l : List ℕ) → length l ≡ k * w → ((i j : ℕ) → i < k → j < w → get_or l (i * w + j) 0 ≡ f i j) → l ≡ rows k w f
rows_only k w f l e s =
    ext_get_or 0 l (rows k w f) (e ∙ sym (length_rows w f k))
    (λ x h. let b : x < k * w = omega arith in
    let i = number_operator k w x b in
    let j = number_ride k w x b in
    subst (λ (z : ℕ). get_or l z 0 ≡ get_or (rows k w f) z 0) (div-add-mod' x w) (s (x / w) (x % w) i j ∙ sym (get_d_rows w f k (x / w) (x % w) 0 i j)))

-- a list with these values at the pairs' places, and behind them the words of an old one, is made of these rows over it
pub rows_over : (k w : ℕ) (f : ℕ → ℕ → ℕ) (l old : List ℕ) → k * w ≤ length l → ((i j : ℕ) → i < k → j < w → get_or l (i * w + j) 0 ≡ f i j) → drop (k * w) l ≡ drop (k * w) old → l ≡ over (rows k w f) old
rows_over k w f l old long values rest =
    let first = rows_only k w f (take (k * w) l) (length-take-le (k * w) l long) (λ i j a b. get_or-take (k * w) l (i * w + j) 0 (digits_lt a b) ∙ values i j a b) in
    sym (take-append-drop (k * w) l) ∙ ap₂ (λ (x y : List ℕ). x ++ y) first rest ∙ ap (λ (n : ℕ). rows k w f ++ drop n old) (sym (length_rows w f k))

-- a list with these values at its first places, and behind them the words of an old one, is made of them over it
pub values_over : (k : ℕ) (f : ℕ → ℕ) (l old : List ℕ) → k ≤ length l → ((x : ℕ) → x < k → get_or l x 0 ≡ f x) → drop k l ≡ drop k old → l ≡ over (values k f) old
values_over k f l old long same rest =
    over_is l old (values k f) (omega (arith, length_values f k))
    (λ x h. let b : x < k = omega (arith, length_values f k) in same x b ∙ sym (getD_values f k x 0 b))
    (subst (λ (n : ℕ). drop n l ≡ drop n old) (sym (length_values f k)) rest)

-- whether the pair of a number is cleared
abbrev pub cleared_number : Graph → ℕ → Bool
cleared_number g k = g.cleared (k / g.rides) (k % g.rides)

-- the number of the pair at place i
abbrev pub number_at : Graph → List ℕ → List ℕ → ℕ → ℕ
number_at g operators rides i = get_or operators i 0 * g.rides + get_or rides i 0

-- the first n places of two arrays hold the pairs of g, in ascending order
pub record Pairs (g : Graph) (n : ℕ) (operators rides : List ℕ) : Type 0 where
  pub operator : (i : ℕ) → i < n → get_or operators i 0 < g.operators
  pub ride : (i : ℕ) → i < n → get_or rides i 0 < g.rides
  pub ascending : (i j : ℕ) → i < j → j < n → number_at g operators rides i < number_at g operators rides j
  pub holds : (i : ℕ) → i < n → T (g.cleared (get_or operators i 0) (get_or rides i 0))
  pub found : (u v : ℕ) → u < g.operators → v < g.rides → T (g.cleared u v) → (i : ℕ) × (i < n) × (get_or operators i 0 ≡ u) × (get_or rides i 0 ≡ v)

-- ---- lists of values

values_take : (l : List ℕ) (n : ℕ) → n ≤ length l → values n (λ i. get_or l i 0) ≡ take n l
unfolding values
values_take l zero h = refl
values_take l (suc n) h =
    ap (λ (xs : List ℕ). xs ++ (get_or l n 0 ∷ [])) (values_take l n (omega arith)) ∙ sym (take-suc l n 0 h)

map_values : (f q : ℕ → ℕ) (n : ℕ) → map f (values n q) ≡ values n (λ i. f (q i))
unfolding values
map_values f q zero = refl
map_values f q (suc n) = map-append f (values n q) (q n ∷ []) ∙ ap (λ (xs : List ℕ). xs ++ (f (q n) ∷ [])) (map_values f q n)

get_d_map : (f : ℕ → ℕ) (l : List ℕ) (i : ℕ) → i < length l → get_or (map f l) i 0 ≡ f (get_or l i 0)
get_d_map f [] i h = absurd (let z : ⊥ = omega arith in z)
get_d_map f (x ∷ xs) zero h = refl
get_d_map f (x ∷ xs) (suc i) h = get_d_map f xs i (omega arith)

-- ---- a listed pair has a place

pub pair_stands : (operators rides : List ℕ) (u v i : ℕ) → get_or operators i 0 ≡ u → get_or rides i 0 ≡ v → T (pair_at operators rides u v i)
pair_stands operators rides u v i d e =
    and_both (eqb (get_or operators i 0) u) (eqb (get_or rides i 0) v)
    (subst (λ (x : ℕ). T (eqb (get_or operators i 0) x)) d (eqb_refl (get_or operators i 0)))
    (subst (λ (x : ℕ). T (eqb (get_or rides i 0) x)) e (eqb_refl (get_or rides i 0)))

module _ (n : ℕ) (operators rides : List ℕ) (u v : ℕ) where
  pub listed_place : T (listed n operators rides u v) → (i : ℕ) × (i < n) × (get_or operators i 0 ≡ u) × (get_or rides i 0 ≡ v)
  unfolding listed
  listed_place t =
      let w = some_witness (pair_at operators rides u v) n t in
      let i : ℕ = w.0 in
      (i, w.1, eqb→eq (get_or operators i 0) u (and_left (eqb (get_or operators i 0) u) (eqb (get_or rides i 0) v) w.2), eqb→eq (get_or rides i 0) v (and_right (eqb (get_or operators i 0) u) (eqb (get_or rides i 0) v) w.2))

  pub place_listed : (i : ℕ) → i < n → get_or operators i 0 ≡ u → get_or rides i 0 ≡ v → T (listed n operators rides u v)
  unfolding listed
  place_listed i h d e = some_holds (pair_at operators rides u v) n i h (pair_stands operators rides u v i d e)

-- the clearance graph depends on the first words of the pair arrays alone, as many as pairs
pub graph_same : (h : Head) (operators rides operators' rides' : List ℕ) → ((i : ℕ) → i < h.pairs → get_or operators i 0 ≡ get_or operators' i 0) → ((i : ℕ) → i < h.pairs → get_or rides i 0 ≡ get_or rides' i 0) → graph h operators rides ≡ graph h operators' rides'
unfolding listed
graph_same h operators rides operators' rides' p q = λ j.
    sized h
    (λ u v. some_ext (pair_at operators rides u v) (pair_at operators' rides' u v) h.pairs (λ i k. ap₂ (λ (x y : ℕ). eqb x u && eqb y v) (p i k) (q i k)) j)

-- what lies behind the pair arrays doesn't matter
pub graph_append : (h : Head) (operators rides more more' : List ℕ) → h.pairs ≤ length operators → h.pairs ≤ length rides → graph h (operators ++ more) (rides ++ more') ≡ graph h operators rides
graph_append h operators rides more more' l l' = graph_same h (operators ++ more) (rides ++ more') operators rides (λ i k. get_or-append operators more 0 i (omega arith)) (λ i k. get_or-append rides more' 0 i (omega arith))

-- ---- arrays that hold the pairs of g are its enumeration

module _ (g : Graph) (n : ℕ) (operators rides : List ℕ) (ps : Pairs g n operators rides) where
  abbrev key : ℕ → ℕ
  key i = number_at g operators rides i

  pairs_enumerate : Enumerates (cleared_number g) (g.operators * g.rides) n key
  pairs_enumerate =
      record {
        below = λ i h. digits_lt (ps.operator i h) (ps.ride i h);
        ascending = ps.ascending;
        passes = λ i h. subst₂ (λ (u v : ℕ). T (g.cleared u v)) (sym (digits_div (get_or operators i 0) (ps.ride i h))) (sym (digits_mod (get_or operators i 0) (ps.ride i h))) (ps.holds i h);
        found = λ x h t. let w = ps.found (x / g.rides) (x % g.rides) (number_operator g.operators g.rides x h) (number_ride g.operators g.rides x h) t in (w.0, w.1, ap₂ (λ (u v : ℕ). u * g.rides + v) w.2 w.3 ∙ div-add-mod' x g.rides);
      }

  pub pairs_numbers : values n key ≡ pair_numbers g
  unfolding pair_numbers
  pairs_numbers = enumerates_values (cleared_number g) (g.operators * g.rides) n key pairs_enumerate

  pub pairs_count : n ≡ length (pair_numbers g)
  pairs_count = sym (length_values key n) ∙ ap length pairs_numbers

  pub pairs_operators : n ≤ length operators → take n operators ≡ map (λ k. k / g.rides) (pair_numbers g)
  pairs_operators l =
      sym (values_take operators n l) ∙
      values_ext (λ i. get_or operators i 0) (λ i. key i / g.rides) n (λ i h. sym (digits_div (get_or operators i 0) (ps.ride i h))) ∙
      sym (map_values (λ k. k / g.rides) key n) ∙
      ap (map (λ (k : ℕ). k / g.rides)) pairs_numbers

  pub pairs_rides : n ≤ length rides → take n rides ≡ map (λ k. k % g.rides) (pair_numbers g)
  pairs_rides l =
      sym (values_take rides n l) ∙
      values_ext (λ i. get_or rides i 0) (λ i. key i % g.rides) n (λ i h. sym (digits_mod (get_or operators i 0) (ps.ride i h))) ∙
      sym (map_values (λ k. k % g.rides) key n) ∙
      ap (map (λ (k : ℕ). k % g.rides)) pairs_numbers

  -- they list just the pairs of g
  pub pairs_listed : (u v : ℕ) → u < g.operators → v < g.rides → listed n operators rides u v ≡ g.cleared u v
  pairs_listed u v a b =
      test_ext (listed n operators rides u v) (g.cleared u v)
      (λ t. let w = listed_place n operators rides u v t in subst₂ (λ (x y : ℕ). T (g.cleared x y)) w.2 w.3 (ps.holds w.0 w.1))
      (λ t. let w = ps.found u v a b t in place_listed n operators rides u v w.0 w.1 w.2 w.3)

  pub pairs_in_range : (u v : ℕ) → T (listed n operators rides u v) → (u < g.operators) × (v < g.rides)
  pairs_in_range u v t =
      let w = listed_place n operators rides u v t in (omega (arith, ps.operator w.0 w.1, w.2), omega (arith, ps.ride w.0 w.1, w.3))

-- ---- the enumeration of g holds its pairs

-- arrays whose first places are the operators and rides of the cleared pairs in ascending order
pub pairs_of : (g : Graph) (operators rides : List ℕ) → ((i : ℕ) → i < length (pair_numbers g) → get_or operators i 0 ≡ get_or (pair_numbers g) i 0 / g.rides) → ((i : ℕ) → i < length (pair_numbers g) → get_or rides i 0 ≡ get_or (pair_numbers g) i 0 % g.rides) → Pairs g (length (pair_numbers g)) operators rides
unfolding pair_numbers
pairs_of g operators rides o r =
    let p = cleared_number g in
    let k : ℕ = g.operators * g.rides in
    let e = passing_enumerates p k in
    let c = length_passing p k in
    let at : ℕ → ℕ = λ i. get_or (passing k p) i 0 in
    let number : (i : ℕ) → i < length (passing k p) → number_at g operators rides i ≡ at i = λ i h. ap₂ (λ (u v : ℕ). u * g.rides + v) (o i h) (r i h) ∙ div-add-mod' (at i) g.rides in
    record {
      operator = λ i h. omega (arith, o i h, number_operator g.operators g.rides (at i) (e.below i (omega arith)));
      ride = λ i h. omega (arith, r i h, number_ride g.operators g.rides (at i) (e.below i (omega arith)));
      ascending = λ i j h l. omega (arith, number i (omega arith), number j l, e.ascending i j h (omega arith));
      holds = λ i h. subst₂ (λ (u v : ℕ). T (g.cleared u v)) (sym (o i h)) (sym (r i h)) (e.passes i (omega arith));
      found = λ u v a b t.
          let w = e.found (u * g.rides + v) (digits_lt a b) (subst₂ (λ (x y : ℕ). T (g.cleared x y)) (sym (digits_div u b)) (sym (digits_mod u b)) t) in
          let l : w.0 < length (passing k p) = omega (arith, w.1) in
          (w.0, l, o w.0 l ∙ ap (λ (x : ℕ). x / g.rides) w.2 ∙ digits_div u b, r w.0 l ∙ ap (λ (x : ℕ). x % g.rides) w.2 ∙ digits_mod u b);
    }

-- the first words of a padded array, whatever stands behind it
getD_padded : (f : ℕ → ℕ) (l : List ℕ) (places : ℕ) (more : List ℕ) (i : ℕ) → i < length l → get_or (padded places (map f l) ++ more) i 0 ≡ f (get_or l i 0)
getD_padded f l places more i h =
    let m = map f l in
    let z : List ℕ = replicate (places - length m) 0 in
    get_or-append (m ++ z) more 0 i (omega (arith, length-append m z, length-map l f)) ∙
    get_or-append m z 0 i (omega (arith, length-map l f)) ∙
    get_d_map f l i h

-- the pair arrays of a board of g hold its pairs, whatever stands behind them
pub pairs_padded : (g : Graph) (places : ℕ) (more more' : List ℕ) → Pairs g (length (pair_numbers g)) (padded places (map (λ k. k / g.rides) (pair_numbers g)) ++ more) (padded places (map (λ k. k % g.rides) (pair_numbers g)) ++ more')
pairs_padded g places more more' =
    pairs_of g
    (padded places (map (λ k. k / g.rides) (pair_numbers g)) ++ more)
    (padded places (map (λ k. k % g.rides) (pair_numbers g)) ++ more')
    (getD_padded (λ k. k / g.rides) (pair_numbers g) places more)
    (getD_padded (λ k. k % g.rides) (pair_numbers g) places more')

pub length_numbers : (g : Graph) → length (pair_numbers g) ≤ g.operators * g.rides
unfolding pair_numbers
length_numbers g =
    omega (arith, length_passing (cleared_number g) (g.operators * g.rides), count_le (cleared_number g) (g.operators * g.rides))

pub length_padded : (f : ℕ → ℕ) (g : Graph) → length (padded (g.operators * g.rides) (map f (pair_numbers g))) ≡ g.operators * g.rides
length_padded f g =
    let m = map f (pair_numbers g) in
    let z : ℕ = g.operators * g.rides - length m in
    omega (arith, length-append m (replicate z 0), length-replicate {A = ℕ} z 0, length-map (pair_numbers g) f, length_numbers g)

-- the numbers depend on the clearances below the sizes and on nothing else
pub pair_numbers_same : (g : Graph) (c : ℕ → ℕ → Bool) → ((u v : ℕ) → u < g.operators → v < g.rides → g.cleared u v ≡ c u v) → pair_numbers (changed g c) ≡ pair_numbers g
unfolding pair_numbers
pair_numbers_same g c s =
    passing_ext (cleared_number (changed g c)) (cleared_number g) (g.operators * g.rides)
    (λ x h. sym (s (x / g.rides) (x % g.rides) (number_operator g.operators g.rides x h) (number_ride g.operators g.rides x h)))

-- ---- 4 and 5

module _ (h : Head) (operators rides : List ℕ) where
  placed : (T (refused_5 h operators rides) → ⊥) → (i : ℕ) → i < h.pairs → T (out_of_range h (get_or operators i 0) (get_or rides i 0) || unordered operators rides i) → ⊥
  unfolding misplaced refused_5
  placed n i l t = n (some_holds (misplaced h operators rides) h.pairs i l t)

  -- a pair table to which 5 does not apply holds the pairs of its graph
  pub table_pairs : (T (refused_5 h operators rides) → ⊥) → Pairs (graph h operators rides) h.pairs operators rides
  table_pairs n =
      let u : ℕ → ℕ = λ i. get_or operators i 0 in
      let v : ℕ → ℕ = λ i. get_or rides i 0 in
      let low : (i : ℕ) → i < h.pairs → T (out_of_range h (u i) (v i)) → ⊥ = λ i l t. placed n i l (or_left (out_of_range h (u i) (v i)) (unordered operators rides i) t) in
      let ride : (i : ℕ) → i < h.pairs → v i < h.rides = λ i l. elim (dec_lt (v i) h.rides) [ yes b ↦ b | no b ↦ absurd (low i l (or_right (leb h.operators (u i)) (leb h.rides (v i)) (le→leb h.rides (v i) (omega arith)))) ] in
      record {
        operator = λ i l. elim (dec_lt (u i) h.operators) [ yes b ↦ b | no b ↦ absurd (low i l (or_left (leb h.operators (u i)) (leb h.rides (v i)) (le→leb h.operators (u i) (omega arith)))) ];
        ride = ride;
        ascending = ascending_steps (number_at (graph h operators rides) operators rides) h.pairs
            (λ i l. before_number h.rides (u i) (v i) (u (suc i)) (v (suc i)) (ride i (omega arith))
            (by_test (before (u i) (v i) (u (suc i)) (v (suc i))) (λ t. t)
            (λ o. absurd (placed n (suc i) l (or_right (out_of_range h (u (suc i)) (v (suc i))) (unordered operators rides (suc i)) (not_T (before (u i) (v i) (u (suc i)) (v (suc i))) o))))));
        holds = λ i l. place_listed h.pairs operators rides (u i) (v i) i l refl refl;
        found = λ a b k l t. listed_place h.pairs operators rides a b t;
      }

  -- to arrays that hold the pairs of a graph of its sizes, 4 and 5 do not apply
  module _ (c : ℕ → ℕ → Bool) (ps : Pairs (sized h c) h.pairs operators rides) where
    pub pairs_fit : h.pairs ≤ h.operators * h.rides
    pairs_fit = omega (arith, pairs_count (sized h c) h.pairs operators rides ps, length_numbers (sized h c))

    ordered : (i : ℕ) → i < h.pairs → T (unordered operators rides i) → ⊥
    ordered zero l t = t
    ordered (suc i) l t =
        T_not (before (get_or operators i 0) (get_or rides i 0) (get_or operators (suc i) 0) (get_or rides (suc i) 0)) t
        (number_before h.rides (get_or operators i 0) (get_or rides i 0) (get_or operators (suc i) 0) (get_or rides (suc i) 0) (ps.ride (suc i) l) (ps.ascending i (suc i) (omega arith) l))

    pub pairs_accepted : T (refused_5 h operators rides) → ⊥
    unfolding misplaced refused_5
    pairs_accepted t =
        let w = some_witness (misplaced h operators rides) h.pairs t in
        let u : ℕ = get_or operators w.0 0 in
        let v : ℕ = get_or rides w.0 0 in
        or_cases (out_of_range h u v) (unordered operators rides w.0) w.2
        (λ o. or_cases (leb h.operators u) (leb h.rides v) o (λ b. let z : ⊥ = omega (arith, leb→le h.operators u b, ps.operator w.0 w.1) in z) (λ b. let z : ⊥ = omega (arith, leb→le h.rides v b, ps.ride w.0 w.1) in z))
        (ordered w.0 w.1)
