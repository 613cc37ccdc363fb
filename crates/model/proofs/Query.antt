-- Demand 2 for queries: on the index of any clearances of the head's sizes that count a query's marks are the (α, β)-core of Definition 2.1 of
-- those present.
use mathlib.Core.Path.{◌≡◌, refl, sym, ◌∙◌, ap, subst}
use mathlib.Core.Bool.{Bool, true, false, ◌&&◌, ◌||◌}
use mathlib.Core.List.{List}
use Prim.Native.Nat.{ℕ, ◌+◌, ◌-◌, ◌*◌, ◌≤◌, ◌<◌, max}
use native.Mathlib.Omega.{arith}
use native.Mathlib.Decide.{dec_le}
use lib.Dec.{T, leb, eqb}
use borrow.Author.Tests.{le-leb, lt-leb, eq-eqb, ne_eqb}
use lib.ListN.{get_or}
use Rattle.model.specs.declared.Head.{Head}
use Rattle.model.specs.Count.{bit}
use Rattle.model.specs.Graph.{Graph, nodes, Largest, limits, marked, present, counting, cover, level, row_for, in_by_level, index_of}
use Rattle.model.specs.Layout.{mark_places, sized}
use Rattle.model.specs.Calls.{level_read, query_marks}
use Rattle.model.specs.QueryLaws.{ZeroIsNoLimit, QueryIsCore}
use Rattle.model.specs.PresenceLaws.{PresenceLaws}
use Rattle.model.proofs.Count.{and_false, bit_test, getD_values}
use Rattle.model.proofs.Peel.{degree_mono}
use Rattle.model.proofs.Cover.{limits_operator, limits_ride, limits_either}
use Rattle.model.proofs.Level.{level_high, level_place, level_from_zero}
use Rattle.model.proofs.Presence.{away_short, here_short, raised_largest, no_pair, no_level, all_count, core_here}

-- a set that agrees with a largest one on the nodes is it
pub largest_ext : (g : Graph) (limit : ℕ → ℕ) (start s t : ℕ → Bool) → ((x : ℕ) → x < nodes g → s x ≡ t x) → Largest g limit start s → Largest g limit start t
largest_ext g limit start s t same c =
    record {
      inside = λ x h m. c.inside x h (subst T (sym (same x h)) m);
      meets = λ x h m. omega (arith, c.meets x h (subst T (sym (same x h)) m), degree_mono g s t (λ y l k. subst T (same y l) k) x);
      largest = λ r i m x h k. subst T (same x h) (c.largest r i m x h k);
    }

-- ---- what a query reads and marks

module _ (h : Head) (index : List ℕ) (α : ℕ) where
  pub level_there : row_for α ≤ h.rides → (x : ℕ) → level_read h index α x ≡ get_or index ((row_for α - 1) * mark_places h + x) 0
  level_there r x = rw (le-leb (row_for α) h.rides r, level_read)

  pub level_missing : h.rides < row_for α → (x : ℕ) → level_read h index α x ≡ 0
  level_missing r x = rw (lt-leb (row_for α) h.rides r, level_read)

-- whether a node is in by its level
abbrev pub level_in : Head → List ℕ → ℕ → ℕ → ℕ → Bool
level_in h index α β x = in_by_level (limits h.operators α β x) β (level_read h index α x)

module _ (h : Head) (index presence : List ℕ) (α β : ℕ) where
  -- whether a query marks it
  abbrev pub query_in : ℕ → Bool
  query_in x = present presence x && level_in h index α β x

  pub query_marked : (x : ℕ) → x < mark_places h → marked (query_marks h index presence α β) x ≡ query_in x
  unfolding query_marks
  query_marked x l =
      ap (λ (z : ℕ). eqb z 1) (getD_values (λ (y : ℕ). bit (query_in y)) (mark_places h) x 0 l) ∙ bit_test (query_in x)

  -- nobody who is off or out
  pub query_away : (x : ℕ) → present presence x ≡ false → x < mark_places h → marked (query_marks h index presence α β) x ≡ false
  query_away x a l = query_marked x l ∙ ap (λ (z : Bool). z && level_in h index α β x) a

-- ---- on the index of any clearances

-- the level that is read is the node's
level_read_is : (h : Head) (c : ℕ → ℕ → Bool) (α x : ℕ) → x < mark_places h → level_read h (index_of (sized h c)) α x ≡ level (sized h c) (row_for α) x
level_read_is h c α x l =
    elim (dec_le (row_for α) h.rides) [
      | yes r ↦ level_there h (index_of (sized h c)) α r x ∙ level_place (sized h c) (row_for α) x (omega arith) r l
      | no r ↦ level_missing h (index_of (sized h c)) α (omega arith) x ∙ sym (level_high (sized h c) (row_for α) x (omega arith) l)
    ]

pub query_is_core : QueryIsCore
query_is_core h c presence α β =
    let here : ℕ → Bool = present presence in
    let g : Graph = counting (sized h c) here in
    largest_ext g (limits h.operators α β) here (λ x. here x && marked (cover g α β) x) (marked (query_marks h (index_of g) presence α β))
    (λ x l. ap (λ (z : Bool). here x && z) (level_from_zero g α β x l ∙ ap (in_by_level (limits h.operators α β x) β) (sym (level_read_is h g.cleared α x l))) ∙ sym (query_marked h (index_of g) presence α β x l))
    (core_here (sized h c) here α β)

-- ---- document 02, 2.1

module _ (h : Head) (index : List ℕ) (α β x : ℕ) where
  -- a node without a limit is in
  unlimited : limits h.operators α β x ≡ 0 → (here : Bool) → (here && level_in h index α β x) ≡ here
  unlimited e true = ap (λ (z : Bool). z || leb (max β 1) (level_read h index α x)) (eq-eqb (limits h.operators α β x) 0 e)
  unlimited e false = refl

  -- a node with a limit is in by its level
  limited : 1 ≤ limits h.operators α β x → level_in h index α β x ≡ leb (max β 1) (level_read h index α x)
  limited k = ap (λ (z : Bool). z || leb (max β 1) (level_read h index α x)) (ne_eqb (limits h.operators α β x) 0 (λ e. omega arith))

  -- which is its word in row α, α from 1, or no level
  in_row : 1 ≤ limits h.operators α β x → 1 ≤ α → α ≤ h.rides → level_in h index α β x ≡ leb (max β 1) (get_or index ((α - 1) * mark_places h + x) 0)
  in_row k a r =
      limited k ∙ ap (leb (max β 1)) (level_there h index α (omega arith) x ∙ ap (λ (z : ℕ). get_or index ((z - 1) * mark_places h + x) 0) (let e : row_for α ≡ α = omega arith in e))

  no_row : 1 ≤ limits h.operators α β x → h.rides < α → level_in h index α β x ≡ false
  no_row k r = limited k ∙ ap (leb (max β 1)) (level_missing h index α (omega arith) x) ∙ lt-leb (max β 1) 0 (omega arith)

  -- limits from 1
  from_one : 1 ≤ limits h.operators α β x → 1 ≤ α → 1 ≤ β → level_in h index α β x ≡ (leb α h.rides && leb β (get_or index ((α - 1) * mark_places h + x) 0))
  from_one k a b =
      let word : ℕ = get_or index ((α - 1) * mark_places h + x) 0 in
      elim (dec_le α h.rides) [
        | yes r ↦ in_row k a r ∙ ap (λ (z : ℕ). leb z word) (let e : max β 1 ≡ β = omega arith in e) ∙ sym (ap (λ (z : Bool). z && leb β word) (le-leb α h.rides r))
        | no r ↦ no_row k (omega arith) ∙ sym (ap (λ (z : Bool). z && leb β word) (lt-leb α h.rides (omega arith)))
      ]

-- for α = 0 a ride is in by its word in row 1
ride_in : (h : Head) (index : List ℕ) (β v : ℕ) → v < h.rides → level_in h index 0 β (h.operators + v) ≡ leb β (get_or index (h.operators + v) 0)
ride_in h index β v l =
    let x : ℕ = h.operators + v in
    let e = limits_ride h.operators 0 β x (omega arith) in
    elim (dec_le 1 β) [
      | yes b ↦
          limited h index 0 β x (omega (arith, e)) ∙
          ap (λ (z : ℕ). leb z (level_read h index 0 x)) (let q : max β 1 ≡ β = omega arith in q) ∙
          ap (leb β) (level_there h index 0 (omega arith) x ∙ ap (λ (z : ℕ). get_or index z 0) (let q : (row_for 0 - 1) * mark_places h + x ≡ x = omega arith in q))
      | no b ↦ unlimited h index 0 β x (omega (arith, e)) true ∙ sym (le-leb β (get_or index x 0) (omega arith))
    ]

-- those present who are in by their level
both_in : (a b c : Bool) → b ≡ c → (a && b) ≡ (a && c)
both_in a b c e = ap (λ (z : Bool). a && z) e

pub zero_is_no_limit : (h : Head) (index presence : List ℕ) → ZeroIsNoLimit h index presence
zero_is_no_limit h index presence =
    let n : ℕ = h.operators in
    let here : ℕ → Bool = present presence in
    let is = query_marked h index presence in
    record {
      all_operators = λ β u l. is 0 β u (omega arith) ∙ unlimited h index 0 β u (limits_operator n 0 β u l) (here u);
      rides_by_row_1 = λ β v l. is 0 β (n + v) (omega arith) ∙ both_in (here (n + v)) _ _ (ride_in h index β v l);
      all_rides = λ α v l. is α 0 (n + v) (omega arith) ∙ unlimited h index α 0 (n + v) (limits_ride n α 0 (n + v) (omega arith)) (here (n + v));
      operators_by_row = λ α u a r l. is α 0 u (omega arith) ∙ both_in (here u) _ _ (in_row h index α 0 u (omega (arith, limits_operator n α 0 u l)) a r);
      rides_alone = λ α u r l. is α 0 u (omega arith) ∙ and_false (here u) _ (no_row h index α 0 u (omega (arith, limits_operator n α 0 u l)) r);
      everyone = λ x l. is 0 0 x l ∙ unlimited h index 0 0 x (limits_either n 0 0 x (λ (k : ℕ). k ≡ 0) refl refl) (here x);
      from_one = λ α β x a b l. is α β x l ∙ both_in (here x) _ _ (from_one h index α β x (limits_either n α β x (λ (k : ℕ). 1 ≤ k) a b) a b);
    }

-- ---- document 02, 2.4

pub presence_laws : PresenceLaws
presence_laws =
    record {
      falls_short = away_short;
      as_before = here_short;
      largest = raised_largest;
      no_pair = no_pair;
      no_level = no_level;
      all_count = all_count;
      query = query_away;
    }
