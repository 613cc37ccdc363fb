-- Raising β: what a sweep of the rides and a sweep of the operators keep true.
use mathlib.Core.Path.{◌≡◌, refl, sym, ap, ap₂, ◌∙◌, subst}
use mathlib.Core.Logic.{◌⊎◌, inl, inr, ⊎_elim}
use mathlib.Core.Bool.{Bool, true, false, ◌&&◌}
use mathlib.Core.List.{List, ◌++◌}
use Prim.Native.Nat.{ℕ, ◌+◌, ◌-◌, ◌*◌, ◌≤◌, ◌<◌}
use native.Mathlib.Omega.{arith}
use native.Mathlib.Decide.{dec_lt, dec_le}
use lib.Dec.{T, ltb, leb, eqb, lt→ltb, leb→le, le→leb, eqb→eq}
use borrow.Author.Tests.{lt-ltb, le-ltb, le-leb, lt-leb}
use lib.ListN.{length, get_or, take, drop, length-take}
use lib.Seq.{get_or-take, ext_get_or}
use borrow.Rule.Slice.PartMut.{same_len_mid}
use Rattle.model.specs.Count.{bit, count, values}
use Rattle.model.specs.Graph.{Graph, nodes, degree, everybody, Inside, Meets, limits, marked, cover, level, row}
use Rattle.model.proofs.Count.{by_test, test_true, test_false, test_ext, and_left, and_right, and_both, count_le, count_ext, count_pos, count_witness, count_add, length_values, getD_values}
use Rattle.model.proofs.Peel.{degree_operator, degree_ride, degree_mono}
use Rattle.model.proofs.Cover.{limits_operator, limits_ride, cover_core, cover_holds, cover_laws}
use Rattle.model.proofs.Level.{level_largest, level_in}
use Rattle.model.proofs.Store.{part_length, part_at, put_before, put_at, front_at, front_after}
use Rattle.graph_tables.specs.Table.{Tables, joined, table_graph}
use Rattle.graph_tables.proofs.Held.{joined_mirrored}
use Rattle.index_sweeps.specs.Sweep.{falls, Side, SideSwept}
use Rattle.index_row.specs.Row.{kept_set, Work, work, Fits, Raising, Settled, Rounded, Lower, Least, Start}

-- ---- the set of the nodes kept

module _ (n : ℕ) (operators rides : List ℕ) where
  pub kept_operator : (x : ℕ) → x < n → kept_set n operators rides x ≡ marked operators x
  unfolding kept_set
  kept_operator x h = rw (lt-ltb x n h, kept_set)

  pub kept_ride : (x : ℕ) → n ≤ x → kept_set n operators rides x ≡ marked rides (x - n)
  unfolding kept_set
  kept_ride x h = rw (le-ltb x n h, kept_set)

  pub kept_ride_at : (v : ℕ) → kept_set n operators rides (n + v) ≡ marked rides v
  kept_ride_at v = kept_ride (n + v) (omega arith) ∙ ap (marked rides) (let e : n + v - n ≡ v = omega arith in e)

-- ---- a set that shrinks

-- from s to s' only nodes leave that fall short of (α, β) in s
module _ (g : Graph) (α β : ℕ) (a : 1 ≤ α) (b : 1 ≤ β) (s s' : ℕ → Bool) (short : (x : ℕ) → x < nodes g → T (s x) → (T (s' x) → ⊥) → degree g s x < limits g.operators α β x) (holds : Inside g (marked (cover g α β)) s) (within : 2 ≤ β → Inside g s (marked (cover g α (β - 1)))) where
  -- who leaves is not in the cover
  leaves_out : (x : ℕ) → x < nodes g → T (s x) → (T (s' x) → ⊥) → T (marked (cover g α β) x) → ⊥
  leaves_out x h t n c =
      omega (
        arith,
        short x h t n,
        (cover_core g α β).meets x h c,
        degree_mono g (marked (cover g α β)) s holds x,
      )

  pub shrink_holds : Inside g (marked (cover g α β)) s'
  shrink_holds x h c = by_test (s' x) (λ t. t) (λ n. absurd (leaves_out x h (holds x h c) n c))

  pub shrink_level : (x : ℕ) → x < nodes g → T (s x) → (T (s' x) → ⊥) → level g α x ≡ β - 1
  shrink_level x h t n =
      let low : level g α x < β = elim (dec_lt (level g α x) β) [ yes l ↦ l | no l ↦ absurd (leaves_out x h t n (level_in g α x β b h (omega arith))) ] in
      elim (dec_le 2 β) [
        | yes l ↦ omega (arith, level_largest g α x (β - 1) a (omega arith) h (within l x h t))
        | no l ↦ omega arith
      ]

-- ---- the degrees that the work lists hold

module _ (g : Graph) (α β : ℕ) (w : Work) (raising : Raising g α β w) where
  abbrev kept : ℕ → Bool
  kept = kept_set g.operators w.operators w.rides

  pub work_operator : (u : ℕ) → u < g.operators → degree g kept u ≡ get_or w.operator_degrees u 0
  work_operator u h =
      degree_operator g kept u h ∙
      count_ext (λ (v : ℕ). g.cleared u v && kept (g.operators + v)) (λ (v : ℕ). g.cleared u v && marked w.rides v) g.rides (λ v l. ap (λ (z : Bool). g.cleared u v && z) (kept_ride_at g.operators w.operators w.rides v)) ∙
      sym (raising.operator_degrees u h)

  pub work_ride : (x : ℕ) → g.operators ≤ x → x < nodes g → degree g kept x ≡ get_or w.ride_degrees (x - g.operators) 0
  work_ride x l h =
      degree_ride g kept x l ∙
      count_ext (λ (u : ℕ). g.cleared u (x - g.operators) && kept u) (λ (u : ℕ). g.cleared u (x - g.operators) && marked w.operators u) g.operators (λ u k. ap (λ (z : Bool). g.cleared u (x - g.operators) && z) (kept_operator g.operators w.operators w.rides u k)) ∙
      sym (raising.ride_degrees (x - g.operators) (omega arith))

-- ---- one side swept

-- the nodes of a side are e 0, e 1, ..; the sweep removed those that fall short and gave them level β - 1; all other nodes are as they were
module _ (g : Graph) (α β : ℕ) (a : 1 ≤ α) (b : 1 ≤ β) (s s' : ℕ → Bool) (size limit : ℕ) (e : ℕ → ℕ) (kept degrees part kept' part' l l' : List ℕ)
    (e_node : (i : ℕ) → i < size → e i < nodes g)
    (split : (x : ℕ) → x < nodes g → ((i : ℕ) × (i < size) × (x ≡ e i)) ⊎ ((s x ≡ s' x) × (get_or l' x 0 ≡ get_or l x 0)))
    (s_is : (i : ℕ) → i < size → s (e i) ≡ marked kept i)
    (s'_is : (i : ℕ) → i < size → s' (e i) ≡ marked kept' i)
    (degree_is : (i : ℕ) → i < size → degree g s (e i) ≡ get_or degrees i 0)
    (limit_is : (i : ℕ) → i < size → limits g.operators α β (e i) ≡ limit)
    (kept_is : (i : ℕ) → i < size → marked kept' i ≡ (marked kept i && leb limit (get_or degrees i 0)))
    (part_is : (i : ℕ) → i < size → get_or part i 0 ≡ get_or l (e i) 0)
    (part'_is : (i : ℕ) → i < size → get_or l' (e i) 0 ≡ get_or part' i 0)
    (levels_is : (i : ℕ) → i < size → get_or part' i 0 ≡ elim (falls kept degrees limit i) [ true ↦ β - 1 | false ↦ get_or part i 0 ])
    (holds : Inside g (marked (cover g α β)) s)
    (within : 2 ≤ β → Inside g s (marked (cover g α (β - 1))))
    (levels : (x : ℕ) → x < nodes g → (T (s x) → ⊥) → get_or l x 0 ≡ level g α x) where
  -- whoever of the side leaves falls short
  side_falls : (i : ℕ) → i < size → T (s (e i)) → (T (s' (e i)) → ⊥) → get_or degrees i 0 < limit
  side_falls i h t n =
      elim (dec_lt (get_or degrees i 0) limit) [
        | yes k ↦ k
        | no k ↦ absurd (n (subst T (sym (s'_is i h ∙ kept_is i h)) (and_both (marked kept i) (leb limit (get_or degrees i 0)) (subst T (s_is i h) t) (le→leb limit (get_or degrees i 0) (omega arith)))))
      ]

  side_short : (x : ℕ) → x < nodes g → T (s x) → (T (s' x) → ⊥) → degree g s x < limits g.operators α β x
  side_short x h t n =
      ⊎_elim
      (λ w. subst (λ (y : ℕ). degree g s y < limits g.operators α β y) (sym w.2) (let f = side_falls w.0 w.1 (subst (λ (y : ℕ). T (s y)) w.2 t) (λ k. n (subst (λ (y : ℕ). T (s' y)) (sym w.2) k)) in omega (arith, f, degree_is w.0 w.1, limit_is w.0 w.1)))
      (λ w. absurd (n (subst T w.0 t)))
      (split x h)

  side_less : Inside g s' s
  side_less x h t =
      ⊎_elim
      (λ w. subst (λ (y : ℕ). T (s y)) (sym w.2) (subst T (sym (s_is w.0 w.1)) (and_left (marked kept w.0) (leb limit (get_or degrees w.0 0)) (subst T (s'_is w.0 w.1 ∙ kept_is w.0 w.1) (subst (λ (y : ℕ). T (s' y)) w.2 t)))))
      (λ w. subst T (sym w.0) t)
      (split x h)

  side_holds : Inside g (marked (cover g α β)) s'
  side_holds = shrink_holds g α β a b s s' side_short holds within

  side_within : 2 ≤ β → Inside g s' (marked (cover g α (β - 1)))
  side_within k x h t = within k x h (side_less x h t)

  -- a removed node of the side: now, or before
  side_level : (i : ℕ) → i < size → (T (s' (e i)) → ⊥) → get_or l' (e i) 0 ≡ level g α (e i)
  side_level i h n =
      by_test (s (e i))
      (λ t. part'_is i h ∙ levels_is i h ∙ rw (falls_yes t) (sym (shrink_level g α β a b s s' side_short holds within (e i) (e_node i h) t n)))
      (λ f. part'_is i h ∙ levels_is i h ∙ rw (falls_no f) (part_is i h ∙ levels (e i) (e_node i h) f))
    where
      falls_yes : T (s (e i)) → falls kept degrees limit i ≡ true
      falls_yes t = test_true (falls kept degrees limit i) (and_both (marked kept i) (ltb (get_or degrees i 0) limit) (subst T (s_is i h) t) (lt→ltb (get_or degrees i 0) limit (side_falls i h t n)))

      falls_no : (T (s (e i)) → ⊥) → falls kept degrees limit i ≡ false
      falls_no f = test_false (falls kept degrees limit i) (λ t. f (subst T (sym (s_is i h)) (and_left (marked kept i) (ltb (get_or degrees i 0) limit) t)))

  side_levels : (x : ℕ) → x < nodes g → (T (s' x) → ⊥) → get_or l' x 0 ≡ level g α x
  side_levels x h n =
      ⊎_elim
      (λ w. subst (λ (y : ℕ). get_or l' y 0 ≡ level g α y) (sym w.2) (side_level w.0 w.1 (λ k. n (subst (λ (y : ℕ). T (s' y)) (sym w.2) k))))
      (λ w. w.1 ∙ levels x h (λ t. n (subst T w.0 t)))
      (split x h)

  -- the three facts of Raising that a sweep keeps
  pub side_done : Inside g (marked (cover g α β)) s' × (2 ≤ β → Inside g s' (marked (cover g α (β - 1)))) × ((x : ℕ) → x < nodes g → (T (s' x) → ⊥) → get_or l' x 0 ≡ level g α x)
  side_done = (side_holds, side_within, side_levels)

-- who is kept has enough or falls short
kept_or_falls : (k : Bool) (d limit : ℕ) → bit (k && leb limit d) + bit (k && ltb d limit) ≡ bit k
kept_or_falls true d limit =
    elim (dec_lt d limit) [
      | yes l ↦ omega (arith, ap bit (lt-leb limit d l), ap bit (lt-ltb d limit l))
      | no l ↦ omega (arith, ap bit (le-leb limit d (omega arith)), ap bit (le-ltb d limit (omega arith)))
    ]
kept_or_falls false d limit = refl

-- ---- the rides swept, and the operators swept

module _ (n m : ℕ) (t t' : List ℕ) (α β : ℕ) (a : 1 ≤ α) (b : 1 ≤ β) (w : Work) (fits : Fits n m t t' w) (raising : Raising (table_graph n m t) α β w) where
  abbrev g : Graph
  g = table_graph n m t

  -- the two tables hold the same clearances
  mirrored : (u v : ℕ) → u < n → v < m → joined t' 200 v u ≡ joined t 60 u v
  mirrored = joined_mirrored (table_graph n m t) t t' fits.tables

  pub rides_side : (part : List ℕ) → length part ≡ m → Side t' 200 w.rides w.ride_degrees part w.operator_degrees
  rides_side part long =
      record {
        table = record {
          wide = omega (arith, fits.tables.by_ride.wide, fits.operator_degrees);
          size = subst (λ (k : ℕ). k * 200 ≤ length t') (sym fits.rides) fits.tables.by_ride.size;
          bits = λ i j h l. fits.tables.by_ride.bits i j (omega (arith, fits.rides)) (omega (arith, fits.operator_degrees)) ∙ ap bit (sym (mirrored j i (omega (arith, fits.operator_degrees)) (omega (arith, fits.rides))));
        };
        degrees_long = omega (arith, fits.rides, fits.ride_degrees);
        levels_long = omega (arith, fits.rides);
        bits = λ v h. raising.ride_bits v (omega (arith, fits.rides));
        counted = λ j h.
            raising.operator_degrees j (omega (arith, fits.operator_degrees)) ∙
            count_ext (λ (v : ℕ). joined t 60 j v && marked w.rides v) (λ (v : ℕ). joined t' 200 v j && marked w.rides v) m (λ v l. ap (λ (z : Bool). z && marked w.rides v) (sym (mirrored j v (omega (arith, fits.operator_degrees)) l))) ∙
            ap (λ (k : ℕ). count k (λ (v : ℕ). joined t' 200 v j && marked w.rides v)) (sym fits.rides);
      }

  pub operators_side : (part : List ℕ) → length part ≡ n → Side t 60 w.operators w.operator_degrees part w.ride_degrees
  operators_side part long =
      record {
        table = record {
          wide = omega (arith, fits.tables.by_operator.wide, fits.ride_degrees);
          size = subst (λ (k : ℕ). k * 60 ≤ length t) (sym fits.operators) fits.tables.by_operator.size;
          bits = λ i j h l. fits.tables.by_operator.bits i j (omega (arith, fits.operators)) (omega (arith, fits.ride_degrees));
        };
        degrees_long = omega (arith, fits.operators, fits.operator_degrees);
        levels_long = omega (arith, fits.operators);
        bits = λ u h. raising.operator_bits u (omega (arith, fits.operators));
        counted = λ j h.
            raising.ride_degrees j (omega (arith, fits.ride_degrees)) ∙
            ap (λ (k : ℕ). count k (λ (u : ℕ). joined t 60 u j && marked w.operators u)) (sym fits.operators);
      }

  -- the rides swept at β
  module _ (r : ℕ) (part rides part' degrees levels : List ℕ) (long : length degrees ≡ n) (swept : SideSwept t' 200 w.rides w.ride_degrees part β (β - 1) (length w.rides) r rides part' degrees) (part_is : (v : ℕ) → v < m → get_or part v 0 ≡ get_or w.levels (n + v) 0) (before : (x : ℕ) → x < n → get_or levels x 0 ≡ get_or w.levels x 0) (after : (v : ℕ) → v < m → get_or levels (n + v) 0 ≡ get_or part' v 0) where
    rides_split : (x : ℕ) → x < nodes g → ((v : ℕ) × (v < m) × (x ≡ n + v)) ⊎ ((kept_set n w.operators w.rides x ≡ kept_set n w.operators rides x) × (get_or levels x 0 ≡ get_or w.levels x 0))
    rides_split x h =
        elim (dec_lt x n) [
          | yes l ↦ inr (kept_operator n w.operators w.rides x l ∙ sym (kept_operator n w.operators rides x l), before x l)
          | no l ↦ inl (x - n, omega arith, omega arith)
        ]

    rides_kept : (v : ℕ) → v < m → marked rides v ≡ (marked w.rides v && leb β (get_or w.ride_degrees v 0))
    rides_kept v h = swept.kept_is v (omega (arith, fits.rides))

    pub rides_meet : (v : ℕ) → v < m → T (marked rides v) → β ≤ get_or w.ride_degrees v 0
    rides_meet v h k = leb→le β (get_or w.ride_degrees v 0) (and_right (marked w.rides v) (leb β (get_or w.ride_degrees v 0)) (subst T (rides_kept v h) k))

    rides_levels_is : (v : ℕ) → v < m → get_or part' v 0 ≡ elim (falls w.rides w.ride_degrees β v) [ true ↦ β - 1 | false ↦ get_or part v 0 ]
    rides_levels_is v h = swept.levels_is v (omega (arith, fits.rides))

    pub rides_swept : Raising g α β (work w.operators degrees rides w.ride_degrees levels)
    rides_swept =
        let d =
        side_done g α β a b (kept_set n w.operators w.rides) (kept_set n w.operators rides) m β (λ (v : ℕ). n + v) w.rides w.ride_degrees part rides part' w.levels levels
        (λ v h. omega arith)
        rides_split
        (λ v h. kept_ride_at n w.operators w.rides v)
        (λ v h. kept_ride_at n w.operators rides v)
        (λ v h. work_ride g α β w raising (n + v) (omega arith) (omega arith) ∙ ap (λ (z : ℕ). get_or w.ride_degrees z 0) (let e : n + v - n ≡ v = omega arith in e))
        (λ v h. limits_ride g.operators α β (n + v) (omega arith))
        rides_kept
        part_is
        after
        rides_levels_is
        raising.holds
        raising.within
        raising.levels in
        record {
          operator_bits = raising.operator_bits;
          ride_bits = λ v h. swept.bits v (omega (arith, fits.rides));
          operator_degrees = λ u h.
              swept.others_is u (omega arith) ∙
              ap (λ (k : ℕ). count k (λ (v : ℕ). joined t' 200 v u && marked rides v)) fits.rides ∙
              count_ext (λ (v : ℕ). joined t' 200 v u && marked rides v) (λ (v : ℕ). joined t 60 u v && marked rides v) m (λ v l. ap (λ (z : Bool). z && marked rides v) (mirrored u v h l));
          ride_degrees = raising.ride_degrees;
          holds = d.0;
          within = d.1;
          levels = d.2;
        }

  -- the operators swept at α
  module _ (r : ℕ) (part operators part' degrees levels : List ℕ) (long : length degrees ≡ m) (swept : SideSwept t 60 w.operators w.operator_degrees part α (β - 1) (length w.operators) r operators part' degrees) (part_is : (u : ℕ) → u < n → get_or part u 0 ≡ get_or w.levels u 0) (before : (u : ℕ) → u < n → get_or levels u 0 ≡ get_or part' u 0) (after : (v : ℕ) → v < m → get_or levels (n + v) 0 ≡ get_or w.levels (n + v) 0) where
    operators_split : (x : ℕ) → x < nodes g → ((u : ℕ) × (u < n) × (x ≡ u)) ⊎ ((kept_set n w.operators w.rides x ≡ kept_set n operators w.rides x) × (get_or levels x 0 ≡ get_or w.levels x 0))
    operators_split x h =
        elim (dec_lt x n) [
          | yes l ↦ inl (x, l, refl)
          | no l ↦ inr (kept_ride n w.operators w.rides x (omega arith) ∙ sym (kept_ride n operators w.rides x (omega arith)), (let e : n + (x - n) ≡ x = omega arith in subst (λ (z : ℕ). get_or levels z 0 ≡ get_or w.levels z 0) e (after (x - n) (omega arith))))
        ]

    operators_kept : (u : ℕ) → u < n → marked operators u ≡ (marked w.operators u && leb α (get_or w.operator_degrees u 0))
    operators_kept u h = swept.kept_is u (omega (arith, fits.operators))

    operators_meet : (u : ℕ) → u < n → T (marked operators u) → α ≤ get_or w.operator_degrees u 0
    operators_meet u h k = leb→le α (get_or w.operator_degrees u 0) (and_right (marked w.operators u) (leb α (get_or w.operator_degrees u 0)) (subst T (operators_kept u h) k))

    operators_swept : Raising g α β (work operators w.operator_degrees w.rides degrees levels)
    operators_swept =
        let d =
        side_done g α β a b (kept_set n w.operators w.rides) (kept_set n operators w.rides) n α (λ (u : ℕ). u) w.operators w.operator_degrees part operators part' w.levels levels
        (λ u h. omega arith)
        operators_split
        (λ u h. kept_operator n w.operators w.rides u h)
        (λ u h. kept_operator n operators w.rides u h)
        (λ u h. work_operator g α β w raising u h)
        (λ u h. limits_operator g.operators α β u h)
        operators_kept
        part_is
        before
        (λ u h. swept.levels_is u (omega (arith, fits.operators)))
        raising.holds
        raising.within
        raising.levels in
        record {
          operator_bits = λ u h. swept.bits u (omega (arith, fits.operators));
          ride_bits = raising.ride_bits;
          operator_degrees = raising.operator_degrees;
          ride_degrees = λ v h. swept.others_is v (omega arith) ∙ ap (λ (k : ℕ). count k (λ (u : ℕ). joined t 60 u v && marked operators u)) fits.operators;
          holds = d.0;
          within = d.1;
          levels = d.2;
        }

    -- as many are kept and removed as were kept
    operators_fewer : count n (marked operators) + r ≡ count n (marked w.operators)
    operators_fewer =
        omega (
          arith,
          swept.removed,
          ap (λ (k : ℕ). count k (falls w.operators w.operator_degrees α)) fits.operators,
          count_add (marked operators) (falls w.operators w.operator_degrees α) (marked w.operators) n (λ u h. ap (λ (z : Bool). bit z + bit (falls w.operators w.operator_degrees α u)) (operators_kept u h) ∙ kept_or_falls (marked w.operators u) (get_or w.operator_degrees u 0) α),
        )

    -- where none was removed, the rides' degrees are as they were
    rides_stay : r ≡ 0 → (v : ℕ) → v < m → get_or degrees v 0 ≡ get_or w.ride_degrees v 0
    rides_stay z v h =
        operators_swept.ride_degrees v h ∙
        count_ext (λ (u : ℕ). joined t 60 u v && marked operators u) (λ (u : ℕ). joined t 60 u v && marked w.operators u) n (λ u l. ap (λ (x : Bool). joined t 60 u v && x) (test_ext (marked operators u) (marked w.operators u) (λ k. and_left (marked w.operators u) (leb α (get_or w.operator_degrees u 0)) (subst T (operators_kept u l) k)) (none_falls u l))) ∙
        sym (raising.ride_degrees v h)
      where
        none_falls : (u : ℕ) → u < n → T (marked w.operators u) → T (marked operators u)
        none_falls u l k =
            elim (dec_lt (get_or w.operator_degrees u 0) α) [
              | yes d ↦ absurd (let y : ⊥ = omega (arith, swept.removed, count_pos (falls w.operators w.operator_degrees α) (length w.operators) u (omega (arith, fits.operators)) (and_both (marked w.operators u) (ltb (get_or w.operator_degrees u 0) α) k (lt→ltb (get_or w.operator_degrees u 0) α d))) in y)
              | no d ↦ subst T (sym (operators_kept u l)) (and_both (marked w.operators u) (leb α (get_or w.operator_degrees u 0)) k (le→leb α (get_or w.operator_degrees u 0) (omega arith)))
            ]

    pub operators_rounded : ((v : ℕ) → v < m → T (marked w.rides v) → β ≤ get_or w.ride_degrees v 0) → Rounded g α β w.operators r (work operators w.operator_degrees w.rides degrees levels)
    operators_rounded meet =
        record {
          raising = operators_swept;
          fewer = operators_fewer;
          settled = λ z. record { operators = operators_meet; rides = λ v h k. omega (arith, rides_stay z v h, meet v h k) };
        }

-- ---- one round, on the lists as the two sweeps leave them

module _ (n m : ℕ) (t t' : List ℕ) (α β : ℕ) (a : 1 ≤ α) (b : 1 ≤ β) (w : Work) (fits : Fits n m t t' w) (raising : Raising (table_graph n m t) α β w) where
  pub rides_part : Side t' 200 w.rides w.ride_degrees (take (n + m - n) (drop n w.levels)) w.operator_degrees
  rides_part = rides_side n m t t' α β a b w fits raising _ (part_length w.levels n m (omega (arith, fits.levels)))

  module _ (r : ℕ) (rides part degrees : List ℕ) (rides_long : length rides ≡ length w.rides) (part_long : length part ≡ length (take (n + m - n) (drop n w.levels))) (degrees_long : length degrees ≡ length w.operator_degrees) (swept : SideSwept t' 200 w.rides w.ride_degrees (take (n + m - n) (drop n w.levels)) β (β - 1) (length w.rides) r rides part degrees) where
    abbrev levels : List ℕ
    levels = take n w.levels ++ (part ++ drop (n + m - n) (drop n w.levels))

    abbrev next : Work
    next = work w.operators degrees rides w.ride_degrees levels

    inside : n + m ≤ length w.levels
    inside = omega (arith, fits.levels)

    part_m : length part ≡ m
    part_m = part_long ∙ part_length w.levels n m inside

    next_fits : Fits n m t t' next
    next_fits =
        record {
          operators = fits.operators;
          operator_degrees = degrees_long ∙ fits.operator_degrees;
          rides = rides_long ∙ fits.rides;
          ride_degrees = fits.ride_degrees;
          levels = same_len_mid n (n + m - n) w.levels part part_long ∙ fits.levels;
          tables = fits.tables;
        }

    next_raising : Raising (table_graph n m t) α β next
    next_raising =
        rides_swept n m t t' α β a b w fits raising r _ rides part degrees levels (degrees_long ∙ fits.operator_degrees) swept
        (λ v h. part_at w.levels n m inside v 0 h)
        (λ x h. put_before w.levels part _ n (omega (arith, inside)) x 0 h)
        (λ v h. put_at w.levels part _ n (omega (arith, inside)) v 0 (omega (arith, part_m)))

    pub operators_part : Side t 60 w.operators degrees (take (n - 0) levels) w.ride_degrees
    operators_part = operators_side n m t t' α β a b next next_fits next_raising (take (n - 0) levels) (simp length-take (omega (arith, next_fits.levels)))

    module _ (r' : ℕ) (operators part' degrees' : List ℕ) (part_long' : length part' ≡ length (take (n - 0) levels)) (degrees_long' : length degrees' ≡ length w.ride_degrees) (swept' : SideSwept t 60 w.operators degrees (take (n - 0) levels) α (β - 1) (length w.operators) r' operators part' degrees') where
      part_n : length part' ≡ n
      part_n = part_long' ∙ simp length-take (omega (arith, next_fits.levels))

      pub rounded : Rounded (table_graph n m t) α β w.operators r' (work operators degrees rides degrees' (part' ++ drop (n - 0) levels))
      rounded =
          subst (λ (k : ℕ). Rounded (table_graph n m t) α β w.operators r' (work operators degrees rides degrees' (part' ++ drop k levels))) (let e : n ≡ n - 0 = omega arith in e)
          (operators_rounded n m t t' α β a b next next_fits next_raising r' (take (n - 0) levels) operators part' degrees' (part' ++ drop n levels) (degrees_long' ∙ fits.ride_degrees) swept'
          (λ u h. get_or-take (n - 0) levels u 0 (omega arith))
          (λ u h. front_at levels part' n part_n u 0 h)
          (λ v h. front_after levels part' n part_n v 0)
          (rides_meet n m t t' α β a b w fits raising r _ rides part degrees levels (degrees_long ∙ fits.operator_degrees) swept
          (λ v h. part_at w.levels n m inside v 0 h)
          (λ x h. put_before w.levels part _ n (omega (arith, inside)) x 0 h)
          (λ v h. put_at w.levels part _ n (omega (arith, inside)) v 0 (omega (arith, part_m)))))

-- ---- the least degree

module _ (kept degrees : List ℕ) where
  pub least_none : Least 0 kept degrees 255
  least_none = record { bound = omega arith; low = λ v h t. absurd (let z : ⊥ = omega arith in z); lowest = λ b h f. h }

  pub least_more : (i low r : ℕ) → Least i kept degrees low → Lower (get_or kept i 0) (get_or degrees i 0) low r → Least (i + 1) kept degrees r
  least_more i low r least lower =
      record {
        bound = omega (arith, least.bound, lower.low_bound);
        low = λ v h t.
            elim (dec_lt v i) [
              | yes l ↦ omega (arith, least.low v l t, lower.low_bound)
              | no l ↦ (let e : v ≡ i = omega arith in subst (λ (z : ℕ). r ≤ get_or degrees z 0) (sym e) (lower.degree_bound (eqb→eq (get_or kept i 0) 1 (subst (λ (z : ℕ). T (marked kept z)) e t))))
            ];
        lowest = λ b h f. lower.lowest b (least.lowest b h (λ v l. f v (omega arith))) (λ e. f i (omega arith) (subst (λ (z : ℕ). T (eqb z 1)) (sym e) tt));
      }

-- ---- from one β to the next, from the start to the end

module _ (n m : ℕ) (t t' : List ℕ) (α : ℕ) (a : 1 ≤ α) (w : Work) (tables : Tables (table_graph n m t) t t') (long : length w.levels ≡ n + m) where
  abbrev gʳ : Graph
  gʳ = table_graph n m t

  pub raising_start : Start gʳ w → Raising gʳ α 1 w
  raising_start start =
      record {
        operator_bits = λ u h. omega (arith, eqb→eq (get_or w.operators u 0) 1 (start.operators u h));
        ride_bits = λ v h. omega (arith, eqb→eq (get_or w.rides v 0) 1 (start.rides v h));
        operator_degrees = λ u h. start.operator_degrees u h ∙ degree_operator gʳ everybody u h ∙ count_ext (λ (v : ℕ). joined t 60 u v && true) (λ (v : ℕ). joined t 60 u v && marked w.rides v) m (λ v l. ap (λ (z : Bool). joined t 60 u v && z) (sym (test_true (marked w.rides v) (start.rides v l))));
        ride_degrees = λ v h. start.ride_degrees v h ∙ degree_ride gʳ everybody (n + v) (omega arith) ∙ count_ext (λ (u : ℕ). joined t 60 u (n + v - n) && true) (λ (u : ℕ). joined t 60 u v && marked w.operators u) n (λ u l. ap₂ (λ (y : ℕ) (z : Bool). joined t 60 u y && z) (let e : n + v - n ≡ v = omega arith in e) (sym (test_true (marked w.operators u) (start.operators u l))));
        holds = λ x h c. all x h;
        within = λ l. absurd (let z : ⊥ = omega arith in z);
        levels = λ x h f. absurd (f (all x h));
      }
    where
      all : (x : ℕ) → x < n + m → T (kept_set n w.operators w.rides x)
      all x h =
          elim (dec_lt x n) [
            | yes l ↦ subst T (sym (kept_operator n w.operators w.rides x l)) (start.operators x l)
            | no l ↦ subst T (sym (kept_ride n w.operators w.rides x (omega arith))) (start.rides (x - n) (omega arith))
          ]

  module _ (β : ℕ) (b : 1 ≤ β) (raising : Raising gʳ α β w) (settled : Settled gʳ α β w) (r : ℕ) (least : Least m w.rides w.ride_degrees r) where
    pub least_high : β ≤ 255 → β ≤ r
    least_high k = least.lowest β k settled.rides

    -- the nodes kept meet (α, r)
    least_meets : Meets gʳ (limits gʳ.operators α r) (kept_set n w.operators w.rides)
    least_meets x h k =
        elim (dec_lt x n) [
          | yes l ↦ omega (arith, limits_operator gʳ.operators α r x l, work_operator gʳ α β w raising x l, settled.operators x l (subst T (kept_operator n w.operators w.rides x l) k))
          | no l ↦ omega (arith, limits_ride gʳ.operators α r x (omega arith), work_ride gʳ α β w raising x (omega arith) h, least.low (x - n) (omega arith) (subst T (kept_ride n w.operators w.rides x (omega arith)) k))
        ]

    pub raising_next : β ≤ r → Raising gʳ α (r + 1) w
    raising_next l =
        record {
          operator_bits = raising.operator_bits;
          ride_bits = raising.ride_bits;
          operator_degrees = raising.operator_degrees;
          ride_degrees = raising.ride_degrees;
          holds = λ x h c. raising.holds x h (cover_laws.nest gʳ α α β (r + 1) (omega arith) (omega arith) x h c);
          within = λ z x h k. subst (λ (y : ℕ). T (marked (cover gʳ α y) x)) (let e : r ≡ r + 1 - 1 = omega arith in e) (cover_holds gʳ α r (kept_set n w.operators w.rides) least_meets x h k);
          levels = raising.levels;
        }

    -- no ride is kept, and so nobody
    module _ (last : r ≡ 255) where
      no_ride : (v : ℕ) → v < m → T (marked w.rides v) → ⊥
      no_ride v h k =
          omega (
            arith,
            least.low v h k,
            raising.ride_degrees v h,
            count_le (λ (u : ℕ). joined t 60 u v && marked w.operators u) n,
            tables.by_ride.wide,
          )

      nobody : (x : ℕ) → x < n + m → T (kept_set n w.operators w.rides x) → ⊥
      nobody x h k =
          elim (dec_lt x n) [
            | yes l ↦
                (let p : 0 < count m (λ (v : ℕ). joined t 60 x v && marked w.rides v) = omega (arith, settled.operators x l (subst T (kept_operator n w.operators w.rides x l) k), raising.operator_degrees x l) in
                let y = count_witness (λ (v : ℕ). joined t 60 x v && marked w.rides v) m p in
                no_ride y.0 y.1 (and_right (joined t 60 x y.0) (marked w.rides y.0) y.2))
            | no l ↦ no_ride (x - n) (omega arith) (subst T (kept_ride n w.operators w.rides x (omega arith)) k)
          ]

      pub raising_end : w.levels ≡ row gʳ α
      unfolding row
      raising_end =
          ext_get_or 0 w.levels (values (n + m) (level gʳ α)) (long ∙ sym (length_values (level gʳ α) (n + m)))
          (λ x h. raising.levels x (omega (arith, long)) (nobody x (omega (arith, long))) ∙ sym (getD_values (level gʳ α) (n + m) x 0 (omega (arith, long))))
