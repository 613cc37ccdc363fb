-- Laws of presence: whoever is off or out falls short of every limit; the largest set under limits raised for them is the largest of those who
-- are here; pairs that count.
use mathlib.Core.Path.{◌≡◌, sym, ap, ◌∙◌, subst}
use mathlib.Core.Logic.{◌↔◌}
use mathlib.Core.Bool.{Bool, false, ◌&&◌}
use mathlib.Core.List.{List}
use Prim.Native.Nat.{ℕ, suc, ◌+◌, ◌-◌, ◌≤◌, ◌<◌}
use native.Mathlib.Omega.{arith}
use native.Mathlib.Decide.{dec_lt, dec_le}
use lib.Dec.{T, ltb}
use Rattle.model.specs.Graph.{Graph, nodes, degree, Meets, Largest, CoreInside, Core, marked, counting, raised, short, cover, level}
use Rattle.model.proofs.Count.{by_test, test_true, test_false, and_left, and_right, and_both, count_mono, count_zero}
use Rattle.model.proofs.Peel.{degree_operator, degree_ride, short_holds}
use Rattle.model.proofs.Cover.{limits_either, degree_operator_le, degree_ride_le, cover_core}
use Rattle.model.proofs.Level.{level_holds, degree_more}

-- a test that is false does not hold
pub fails : (b : Bool) → b ≡ false → T b → ⊥
fails b e t = subst T e t

-- ---- raised limits

module _ (n : ℕ) (here : ℕ → Bool) (limit : ℕ → ℕ) (x : ℕ) where
  pub raised_here : T (here x) → raised n here limit x ≡ limit x
  unfolding raised
  raised_here t = rw (test_true (here x) t, raised)

  pub raised_away : (T (here x) → ⊥) → raised n here limit x ≡ suc n
  unfolding raised
  raised_away a = rw (test_false (here x) a, raised)

-- no degree is above the number of nodes
degree_nodes : (g : Graph) (s : ℕ → Bool) (x : ℕ) → degree g s x ≤ nodes g
degree_nodes g s x =
    elim (dec_lt x g.operators) [
      | yes l ↦ omega (arith, degree_operator_le g s x l)
      | no l ↦ omega (arith, degree_ride_le g s x (omega arith))
    ]

module _ (g : Graph) (here : ℕ → Bool) (limit : ℕ → ℕ) where
  -- the limits raised for whoever is not here
  abbrev high : ℕ → ℕ
  high = raised (nodes g) here limit

  pub away_short : (s : List ℕ) (x : ℕ) → here x ≡ false → T (marked s x) → T (short g high s x)
  away_short s x a t = short_holds g high s x t (omega (arith, degree_nodes g (marked s) x, raised_away (nodes g) here limit x (fails (here x) a)))

  pub here_short : (s : List ℕ) (x : ℕ) → T (here x) → short g high s x ≡ short g limit s x
  unfolding short
  here_short s x t = ap (λ (k : ℕ). marked s x && ltb (degree g (marked s) x) k) (raised_here (nodes g) here limit x t)

  module _ (start s : ℕ → Bool) where
    -- who meets a raised limit is here
    meets_here : Meets g high s → (x : ℕ) → x < nodes g → T (s x) → T (here x)
    meets_here m x h t =
        by_test (here x) (λ k. k) (λ n. absurd (let z : ⊥ = omega (arith, m x h t, raised_away (nodes g) here limit x n, degree_nodes g s x) in z))

    pub largest_inside : Largest g high start s → Largest g limit (λ x. start x && here x) s
    largest_inside l =
        record {
          inside = λ x h t. and_both (start x) (here x) (l.inside x h t) (meets_here l.meets x h t);
          meets = λ x h t. omega (arith, l.meets x h t, raised_here (nodes g) here limit x (meets_here l.meets x h t));
          largest = λ r i m x h t. l.largest r (λ y k w. and_left (start y) (here y) (i y k w)) (λ y k w. omega (arith, m y k w, raised_here (nodes g) here limit y (and_right (start y) (here y) (i y k w)))) x h t;
        }

    pub inside_largest : Largest g limit (λ x. start x && here x) s → Largest g high start s
    inside_largest l =
        record {
          inside = λ x h t. and_left (start x) (here x) (l.inside x h t);
          meets = λ x h t. omega (arith, l.meets x h t, raised_here (nodes g) here limit x (and_right (start x) (here x) (l.inside x h t)));
          largest = λ r i m x h t.
              let within : (y : ℕ) → y < nodes g → T (r y) → T (here y) = λ y k w. by_test (here y) (λ z. z) (λ n. absurd (let z : ⊥ = omega (arith, m y k w, raised_away (nodes g) here limit y n, degree_nodes g r y) in z)) in
              l.largest r (λ y k w. and_both (start y) (here y) (i y k w) (within y k w)) (λ y k w. omega (arith, m y k w, raised_here (nodes g) here limit y (within y k w))) x h t;
        }

    pub raised_largest : Largest g high start s ↔ Largest g limit (λ x. start x && here x) s
    raised_largest = (largest_inside, inside_largest)

-- ---- pairs that count

module _ (g : Graph) (here : ℕ → Bool) where
  abbrev counts : Graph
  counts = counting g here

  -- whether the pair's nodes are both here
  abbrev both : ℕ → ℕ → Bool
  both u v = here u && here (g.operators + v)

  -- whoever is not here has no pair that counts
  pub no_pair : (s : ℕ → Bool) (x : ℕ) → here x ≡ false → x < nodes g → degree counts s x ≡ 0
  no_pair s x a h =
      let away = fails (here x) a in
      elim (dec_lt x g.operators) [
        | yes l ↦
            degree_operator counts s x l ∙
            count_zero (λ v. counts.cleared x v && s (g.operators + v)) g.rides
            (λ v k t. away (and_left (here x) (here (g.operators + v)) (and_right (g.cleared x v) (both x v) (and_left (counts.cleared x v) (s (g.operators + v)) t))))
        | no l ↦
            (let v : ℕ = x - g.operators in
            let e : g.operators + v ≡ x = omega arith in
            degree_ride counts s x (omega arith) ∙
            count_zero (λ u. counts.cleared u v && s u) g.operators
            (λ u k t. away (subst (λ (y : ℕ). T (here y)) e (and_right (here u) (here (g.operators + v)) (and_right (g.cleared u v) (both u v) (and_left (counts.cleared u v) (s u) t))))))
      ]

  pub no_level : (α x : ℕ) → here x ≡ false → 1 ≤ α → x < nodes g → level counts α x ≡ 0
  no_level α x a l h =
      let β : ℕ = level counts α x in
      elim (dec_le 1 β) [
        | yes b ↦
            absurd
            (let z : ⊥ =
            omega (
              arith,
              (cover_core counts α β).meets x h (level_holds counts α x b),
              limits_either g.operators α β x (λ (k : ℕ). 1 ≤ k) l b,
              no_pair (marked (cover counts α β)) x a h,
            ) in
            z)
        | no b ↦ omega arith
      ]

  pub all_count : ((x : ℕ) → x < nodes g → T (here x)) → (u v : ℕ) → u < g.operators → v < g.rides → counts.cleared u v ≡ g.cleared u v
  all_count all u v p q =
      by_test (g.cleared u v)
      (λ t. test_true (counts.cleared u v) (and_both (g.cleared u v) (both u v) t (and_both (here u) (here (g.operators + v)) (all u (omega arith)) (all (g.operators + v) (omega arith)))) ∙ sym (test_true (g.cleared u v) t))
      (λ n. test_false (counts.cleared u v) (λ t. n (and_left (g.cleared u v) (both u v) t)) ∙ sym (test_false (g.cleared u v) n))

  -- of a set those who are here count alone
  degree_here : (s : ℕ → Bool) (x : ℕ) → x < nodes g → degree counts s x ≤ degree counts (λ y. here y && s y) x
  degree_here s x h =
      elim (dec_lt x g.operators) [
        | yes l ↦
            omega (
              arith,
              degree_operator counts s x l,
              degree_operator counts (λ y. here y && s y) x l,
              count_mono
                  (λ v. counts.cleared x v && s (g.operators + v))
                  (λ v. counts.cleared x v && (here (g.operators + v) && s (g.operators + v)))
                  g.rides
                  (λ v k t.
                  let c = and_left (counts.cleared x v) (s (g.operators + v)) t in
                  and_both (counts.cleared x v) (here (g.operators + v) && s (g.operators + v)) c (and_both (here (g.operators + v)) (s (g.operators + v)) (and_right (here x) (here (g.operators + v)) (and_right (g.cleared x v) (both x v) c)) (and_right (counts.cleared x v) (s (g.operators + v)) t))),
            )
        | no l ↦
            (let v : ℕ = x - g.operators in
            omega (
              arith,
              degree_ride counts s x (omega arith),
              degree_ride counts (λ y. here y && s y) x (omega arith),
              count_mono
                  (λ u. counts.cleared u v && s u)
                  (λ u. counts.cleared u v && (here u && s u))
                  g.operators
                  (λ u k t.
                  let c = and_left (counts.cleared u v) (s u) t in
                  and_both (counts.cleared u v) (here u && s u) c (and_both (here u) (s u) (and_left (here u) (here (g.operators + v)) (and_right (g.cleared u v) (both u v) c)) (and_right (counts.cleared u v) (s u) t))),
            ))
      ]

  -- so those of the core who are here are the core of those who are here
  pub core_here : (α β : ℕ) → CoreInside counts here α β (λ x. here x && marked (cover counts α β) x)
  core_here α β =
      let c : ℕ → Bool = marked (cover counts α β) in
      record {
        inside = λ x h t. and_left (here x) (c x) t;
        meets = λ x h t. omega (arith, (cover_core counts α β).meets x h (and_right (here x) (c x) t), degree_here c x h);
        largest = λ r i m x h t. and_both (here x) (c x) (i x h t) ((cover_core counts α β).largest r (λ y k w. tt) m x h t);
      }

  -- where everybody is here, that is the core of all pairs
  pub core_all : ((x : ℕ) → x < nodes g → T (here x)) → (α β : ℕ) (s : ℕ → Bool) → CoreInside counts here α β s → Core g α β s
  core_all all α β s c =
      let less : (u v : ℕ) → u < g.operators → v < g.rides → T (counts.cleared u v) → T (g.cleared u v) = λ u v p q t. and_left (g.cleared u v) (both u v) t in
      let more : (u v : ℕ) → u < g.operators → v < g.rides → T (g.cleared u v) → T (counts.cleared u v) = λ u v p q t. subst T (sym (all_count all u v p q)) t in
      record {
        inside = λ x h t. tt;
        meets = λ x h t. omega (arith, c.meets x h t, degree_more counts g.cleared less s x h);
        largest = λ r i m x h t. c.largest r (λ y k w. all y k) (λ y k w. omega (arith, m y k w, degree_more g counts.cleared more r y k)) x h t;
      }

-- a largest set inside a set is that inside one with the same nodes
pub largest_start : (g : Graph) (limit : ℕ → ℕ) (start start' s : ℕ → Bool) → ((x : ℕ) → x < nodes g → start x ≡ start' x) → Largest g limit start s → Largest g limit start' s
largest_start g limit start start' s same l =
    record {
      inside = λ x h t. subst T (same x h) (l.inside x h t);
      meets = l.meets;
      largest = λ r i. l.largest r (λ y k w. subst T (sym (same y k)) (i y k w));
    }
