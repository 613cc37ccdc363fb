-- How many of the first k pairs that pass a test each row has, one pair more; a degree as such a count.
use mathlib.Core.Path.{◌≡◌, refl, sym, ap, ◌∙◌}
use mathlib.Core.Logic.{◌≢◌}
use mathlib.Core.Bool.{Bool, true, ◌&&◌, and-true}
use mathlib.Core.List.{List}
use Prim.Native.Nat.{ℕ, ◌+◌, ◌-◌, ◌≤◌, ◌<◌}
use native.Mathlib.Omega.{arith}
use native.Mathlib.Decide.{ℕ_discrete}
use lib.Dec.{T}
use lib.ListN.{length, get_or, set}
use lib.Seq.{get_or-set_same, get_or-set_other}
use Rattle.model.specs.Count.{bit, count}
use Rattle.model.specs.Graph.{Graph, degree, everybody}
use Rattle.model.specs.Layout.{listed}
use Rattle.model.proofs.Count.{and_left, count_ext, count_without}
use Rattle.model.proofs.Peel.{degree_operator, degree_ride}
use Rattle.graph_tables.proofs.Place.{listed_here, listed_before}

-- the pairs in rows and columns: pair (i, j) is one of the first k and passes the test
module _ (test : ℕ → ℕ → Bool) (rows columns : List ℕ) where
  abbrev pub passed : ℕ → ℕ → ℕ → Bool
  passed k i j = listed k rows columns i j && test i j

  -- the pair at place k, which is new, counts in its own row and in no other
  module _ (k b : ℕ) (c : get_or columns k 0 < b) (new : T (listed k rows columns (get_or rows k 0) (get_or columns k 0)) → ⊥) where
    abbrev u : ℕ
    u = get_or rows k 0

    abbrev v : ℕ
    v = get_or columns k 0

    count_other : (i : ℕ) → i ≢ u → count b (passed (k + 1) i) ≡ count b (passed k i)
    count_other i n = count_ext (passed (k + 1) i) (passed k i) b (λ j l. ap (λ (z : Bool). z && test i j) (listed_before rows columns k i j (λ e f. n (sym e))))

    count_own : count b (passed (k + 1) u) ≡ count b (passed k u) + bit (test u v)
    count_own =
        count_without (passed (k + 1) u) (passed k u) v b (λ j l n. ap (λ (z : Bool). z && test u j) (listed_before rows columns k u j (λ e f. n (sym f)))) c (λ t. new (and_left (listed k rows columns u v) (test u v) t)) ∙
        ap (λ (z : Bool). count b (passed k u) + bit (z && test u v)) (listed_here rows columns k u v refl refl)

    -- with one more stored in its row's place, counts of the first k pairs are those of the first k + 1
    pub counts_next : (counts : List ℕ) (a : ℕ) → a ≤ length counts → u < a → ((i : ℕ) → i < a → get_or counts i 0 ≡ count b (passed k i)) → (i : ℕ) → i < a → get_or (set counts u (get_or counts u 0 + bit (test u v))) i 0 ≡ count b (passed (k + 1) i)
    counts_next counts a long h upto i l =
        elim (ℕ_discrete i u) [
          | yes e ↦ rw (e, get_or-set_same counts u (get_or counts u 0 + bit (test u v)) 0 (omega arith)) (ap (λ (z : ℕ). z + bit (test u v)) (upto u h) ∙ sym count_own)
          | no n ↦ get_or-set_other counts u i (get_or counts u 0 + bit (test u v)) 0 n ∙ upto i l ∙ sym (count_other i n)
        ]

-- the degree inside everybody is the count of a node's pairs
module _ (g : Graph) where
  pub degree_row : (u : ℕ) → u < g.operators → degree g everybody u ≡ count g.rides (λ v. g.cleared u v)
  degree_row u h = degree_operator g everybody u h ∙ count_ext (λ v. g.cleared u v && true) (λ v. g.cleared u v) g.rides (λ v l. and-true (g.cleared u v))

  pub degree_column : (v : ℕ) → degree g everybody (g.operators + v) ≡ count g.operators (λ u. g.cleared u v)
  degree_column v =
      degree_ride g everybody (g.operators + v) (omega arith) ∙
      count_ext (λ u. g.cleared u (g.operators + v - g.operators) && true) (λ u. g.cleared u v) g.operators
      (λ u l. and-true (g.cleared u (g.operators + v - g.operators)) ∙ ap (g.cleared u) (let e : g.operators + v - g.operators ≡ v = omega arith in e))
