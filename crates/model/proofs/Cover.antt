-- Cover (α, β) is the (α, β)-core of Definition 2.1, and covers nest.
use mathlib.Core.Path.{◌≡◌, sym, ap, ◌∙◌, subst}
use mathlib.Core.Logic.{◌↔◌, ◌⊎◌, ⊎_elim}
use mathlib.Core.Bool.{Bool, ◌&&◌}
use mathlib.Core.List.{List}
use Prim.Native.Nat.{ℕ, ◌+◌, ◌-◌, ◌≤◌, ◌<◌}
use native.Mathlib.Omega.{arith}
use native.Mathlib.Decide.{dec_lt, ℕ_discrete}
use lib.Dec.{T}
use borrow.Author.Tests.{lt-ltb, le-ltb, eq-eqb, ne_eqb}
use lib.ListN.{length, get_or, replicate, length-replicate}
use lib.Seq.{ext_get_or}
use Rattle.model.specs.Count.{bit}
use Rattle.model.specs.Graph.{Graph, nodes, degree, everybody, Inside, Meets, Largest, limits, ride_limit, own_limits, CoreInside, Core, marked, settled, peel, cover_under, cover}
use Rattle.model.specs.CoverLaws.{AllOnes, CoverLaws, CoverUnderLaws}
use Rattle.model.proofs.Count.{bit_of, and_right, count_le, count_witness}
use Rattle.model.proofs.Peel.{degree_operator, degree_ride, all_ones, all_marked, peel_least, length_peel, peel_laws}

module _ (n α β x : ℕ) where
  pub limits_operator : x < n → limits n α β x ≡ α
  unfolding limits
  limits_operator h = rw (lt-ltb x n h, limits)

  pub limits_ride : n ≤ x → limits n α β x ≡ β
  unfolding limits
  limits_ride h = rw (le-ltb x n h, limits)

  -- what holds of both limits holds of a node's
  pub limits_either : (P : ℕ → Type 0) → P α → P β → P (limits n α β x)
  limits_either P a b =
      elim (dec_lt x n) [ yes h ↦ subst P (sym (limits_operator h)) a | no h ↦ subst P (sym (limits_ride (omega arith))) b ]

-- ---- minimums

module _ (minimums : List ℕ) (β v : ℕ) where
  -- a ride without a minimum has the limit β, any other its own
  pub ride_none : get_or minimums v 0 ≡ 0 → ride_limit minimums β v ≡ β
  ride_none e = rw (eq-eqb (get_or minimums v 0) 0 e, ride_limit)

  pub ride_own : (m : ℕ) → 1 ≤ m → get_or minimums v 0 ≡ m → ride_limit minimums β v ≡ m
  ride_own m l e = rw (ne_eqb (get_or minimums v 0) 0 (λ z. omega (arith, z, e)), ride_limit) e

  pub ride_zero_or : (get_or minimums v 0 ≡ 0) ⊎ (get_or minimums v 0 ≡ β) → ride_limit minimums β v ≡ β
  ride_zero_or = ⊎_elim ride_none (λ e. elim (ℕ_discrete β 0) [ yes z ↦ ride_none (e ∙ z) | no n ↦ ride_own β (omega (arith, n)) e ])

module _ (n : ℕ) (minimums : List ℕ) (α β x : ℕ) where
  pub own_operator : x < n → own_limits n minimums α β x ≡ α
  unfolding own_limits
  own_operator h = limits_operator n α (ride_limit minimums β (x - n)) x h

  pub own_ride : n ≤ x → own_limits n minimums α β x ≡ ride_limit minimums β (x - n)
  unfolding own_limits
  own_ride h = limits_ride n α (ride_limit minimums β (x - n)) x h

-- limits of which the rides' are the same, ride by ride, are the same for every node
pub limits_rides : (n m α : ℕ) (f f' : ℕ → ℕ) → ((v : ℕ) → v < m → f v ≡ f' v) → (x : ℕ) → x < n + m → limits n α (f (x - n)) x ≡ limits n α (f' (x - n)) x
limits_rides n m α f f' same x l =
    elim (dec_lt x n) [
      | yes h ↦ limits_operator n α (f (x - n)) x h ∙ sym (limits_operator n α (f' (x - n)) x h)
      | no h ↦ ap (λ (k : ℕ). limits n α k x) (same (x - n) (omega arith))
    ]

-- where every ride has the limit b, they are the limits (α, b)
pub own_one : (n m : ℕ) (minimums : List ℕ) (α β b : ℕ) → ((v : ℕ) → v < m → ride_limit minimums β v ≡ b) → (x : ℕ) → x < n + m → own_limits n minimums α β x ≡ limits n α b x
unfolding own_limits
own_one n m minimums α β b = limits_rides n m α (ride_limit minimums β) (λ v. b)

-- ---- larger limits

module _ (g : Graph) (α α' β β' : ℕ) (a : α ≤ α') (b : β ≤ β') where
  limits_mono : (x : ℕ) → limits g.operators α β x ≤ limits g.operators α' β' x
  limits_mono x =
      elim (dec_lt x g.operators) [
        | yes h ↦ omega (arith, limits_operator g.operators α β x h, limits_operator g.operators α' β' x h)
        | no h ↦ omega (arith, limits_ride g.operators α β x (omega arith), limits_ride g.operators α' β' x (omega arith))
      ]

-- ---- a node with a neighbour in the set

module _ (g : Graph) (s : ℕ → Bool) (x : ℕ) where
  pub degree_operator_le : x < g.operators → degree g s x ≤ g.rides
  degree_operator_le h =
      omega (arith, degree_operator g s x h, count_le (λ v. g.cleared x v && s (g.operators + v)) g.rides)

  pub degree_ride_le : g.operators ≤ x → degree g s x ≤ g.operators
  degree_ride_le h =
      omega (arith, degree_ride g s x h, count_le (λ u. g.cleared u (x - g.operators) && s u) g.operators)

  ride_of : x < g.operators → 1 ≤ degree g s x → (y : ℕ) × (g.operators ≤ y) × (y < nodes g) × T (s y)
  ride_of h d =
      let w = count_witness (λ v. g.cleared x v && s (g.operators + v)) g.rides (omega (arith, degree_operator g s x h)) in
      (g.operators + w.0, omega arith, omega (arith, w.1), and_right (g.cleared x w.0) (s (g.operators + w.0)) w.2)

  operator_of : g.operators ≤ x → 1 ≤ degree g s x → (y : ℕ) × (y < g.operators) × T (s y)
  operator_of h d =
      let w = count_witness (λ u. g.cleared u (x - g.operators) && s u) g.operators (omega (arith, degree_ride g s x h)) in
      (w.0, w.1, and_right (g.cleared w.0 (x - g.operators)) (s w.0) w.2)

-- ---- the cover

-- the largest set inside all ones is the largest of all
module _ (g : Graph) (limit : ℕ → ℕ) where
  peeled_largest : (f : ℕ) (s : List ℕ) → AllOnes g s → T (settled g limit (peel g limit f s)) → Largest g limit everybody (marked (peel g limit f s))
  peeled_largest f s ones done =
      let l = peel_laws.largest g limit f s done in
      record {
        inside = λ x h t. tt;
        meets = l.meets;
        largest = λ t i m. l.largest t (λ x h k. all_marked g s ones x h) m;
      }

  abbrev ones : List ℕ
  ones = replicate (nodes g) 1

  under_largest : Largest g limit everybody (marked (cover_under g limit))
  unfolding cover_under
  under_largest = peeled_largest (nodes g) ones (all_ones g) (peel_laws.settles g limit (nodes g) ones (count_le (marked ones) (nodes g)))

  pub under_length : length (cover_under g limit) ≡ nodes g
  unfolding cover_under
  under_length = length_peel g limit (nodes g) ones ∙ length-replicate (nodes g) 1

  pub under_bits : (x : ℕ) → x < nodes g → get_or (cover_under g limit) x 0 ≤ 1
  unfolding cover_under
  under_bits x h = omega (arith, peel_least g limit (nodes g) ones x, all_ones g x h)

  under_only : (s : List ℕ) → length s ≡ nodes g → ((x : ℕ) → x < nodes g → get_or s x 0 ≤ 1) → Largest g limit everybody (marked s) → s ≡ cover_under g limit
  under_only s long bits l =
      let c : List ℕ = cover_under g limit in
      ext_get_or 0 s c (long ∙ sym under_length)
      (λ x h.
      let k : x < nodes g = omega arith in
      bit_of (get_or s x 0) (bits x k) ∙ ap bit (peel_laws.only g limit everybody (marked s) (marked c) l under_largest x k) ∙ sym (bit_of (get_or c x 0) (under_bits x k)))

-- a largest set under limits is one under limits that are the same for every node
largest_under : (g : Graph) (limit limit' : ℕ → ℕ) → ((x : ℕ) → x < nodes g → limit x ≡ limit' x) → (start s : ℕ → Bool) → Largest g limit start s → Largest g limit' start s
largest_under g limit limit' same start s l =
    record {
      inside = l.inside;
      meets = λ x h t. omega (arith, l.meets x h t, same x h);
      largest = λ r i m. l.largest r i (λ x h t. omega (arith, m x h t, same x h));
    }

-- where every ride has the limit b, the largest set with minimums is that of (α, b)
pub own_core : (g : Graph) (minimums : List ℕ) (α β b : ℕ) → ((v : ℕ) → v < g.rides → ride_limit minimums β v ≡ b) → (here s : ℕ → Bool) → Largest g (own_limits g.operators minimums α β) here s ↔ CoreInside g here α b s
own_core g minimums α β b one here s =
    let same = own_one g.operators g.rides minimums α β b one in
    let own : ℕ → ℕ = own_limits g.operators minimums α β in
    let plain : ℕ → ℕ = limits g.operators α b in
    (largest_under g own plain same here s, largest_under g plain own (λ x l. sym (same x l)) here s)

-- limits past the nodes don't matter
pub under_same : (g : Graph) (limit limit' : ℕ → ℕ) → ((x : ℕ) → x < nodes g → limit x ≡ limit' x) → cover_under g limit ≡ cover_under g limit'
under_same g limit limit' same =
    under_only g limit' (cover_under g limit) (under_length g limit) (under_bits g limit)
    (largest_under g limit limit' same everybody (marked (cover_under g limit)) (under_largest g limit))

pub cover_under_laws : CoverUnderLaws
cover_under_laws = record { largest = under_largest; only = under_only }

pub cover_core : (g : Graph) (α β : ℕ) → Core g α β (marked (cover g α β))
unfolding cover
cover_core g α β = under_largest g (limits g.operators α β)

-- a set that meets the limits lies inside the cover
pub cover_holds : (g : Graph) (α β : ℕ) (t : ℕ → Bool) → Meets g (limits g.operators α β) t → Inside g t (marked (cover g α β))
cover_holds g α β t m = (cover_core g α β).largest t (λ x h k. tt) m

pub cover_laws : CoverLaws
cover_laws =
    record {
      core = cover_core;
      peeled = λ g α β. peeled_largest g (limits g.operators α β);
      nest = λ g α α' β β' a b.
          cover_holds g α β (marked (cover g α' β')) (λ x h t. omega (arith, (cover_core g α' β').meets x h t, limits_mono g α α' β β' a b x));
    }

-- a cover with β from 1 that holds somebody holds an operator; with α from 1, a ride
module _ (g : Graph) (α β x : ℕ) (h : x < nodes g) (t : T (marked (cover g α β) x)) where
  pub cover_operator : 1 ≤ β → (y : ℕ) × (y < g.operators) × T (marked (cover g α β) y)
  cover_operator b =
      elim (dec_lt x g.operators) [
        | yes l ↦ (x, l, t)
        | no l ↦ operator_of g (marked (cover g α β)) x (omega arith) (omega (arith, (cover_core g α β).meets x h t, limits_ride g.operators α β x (omega arith)))
      ]

  pub cover_ride : 1 ≤ α → (y : ℕ) × (g.operators ≤ y) × (y < nodes g) × T (marked (cover g α β) y)
  cover_ride a =
      elim (dec_lt x g.operators) [
        | yes l ↦ ride_of g (marked (cover g α β)) x l (omega (arith, (cover_core g α β).meets x h t, limits_operator g.operators α β x l))
        | no l ↦ (x, omega arith, h, t)
      ]

  -- a cover that holds somebody has β at most the number of operators
  pub cover_low_β : 1 ≤ α → β ≤ g.operators
  cover_low_β a =
      let y = cover_ride a in
      omega (arith, (cover_core g α β).meets y.0 y.2 y.3, limits_ride g.operators α β y.0 y.1, degree_ride_le g (marked (cover g α β)) y.0 y.1)
