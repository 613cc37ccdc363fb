-- Laws of a sweep: a node visited, the nodes below x swept, and that nobody falls short after a sweep that dropped nobody.
use mathlib.Core.Path.{◌≡◌, refl, sym, ap, ap₂, ◌∙◌, subst, subst₂}
use mathlib.Core.Logic.{◌≢◌}
use mathlib.Core.Bool.{Bool, true, false}
use mathlib.Core.List.{List}
use Prim.Native.Nat.{ℕ, ◌+◌, ◌≤◌, ◌<◌}
use native.Mathlib.Omega.{arith}
use native.Mathlib.Decide.{ℕ_discrete}
use lib.Dec.{T, lt→ltb}
use borrow.Author.Count.{below_more}
use borrow.Author.Tests.{le-ltb}
use lib.ListN.{length, get_or, set}
use lib.Seq.{get_or-set_same, get_or-set_other, drop-set-lt}
use Rattle.model.specs.Count.{bit, count, lowest}
use Rattle.model.specs.Graph.{Graph, nodes, marked, short, settled}
use Rattle.model.specs.CoverLaws.{members}
use Rattle.model.proofs.Count.{by_test, test_true, test_false, count_without}
use Rattle.model.proofs.Peel.{marked_cleared, marked_other, marked_stays, short_marked, short_out, unsettled_lowest}
use Rattle.graph_tables.specs.Table.{Tables}
use Rattle.graph_drops.specs.Drop.{lacks, Held}
use Rattle.graph_drops.proofs.Lacking.{lacks_short}
use Rattle.limits_cover.specs.Cover.{Visited, Shrunk, Swept}

-- a visit, by whether the node falls short
module _ (g : Graph) (limit : ℕ → ℕ) (marks : List ℕ) (x : ℕ) where
  visited_as : (b : Bool) → short g limit marks x ≡ b → Visited g limit marks x (bit b) (elim b [ true ↦ set marks x 0 | false ↦ marks ])
  visited_as b e = record { dropped = sym (ap bit e); marks_are = sym (ap (λ (s : Bool). elim s [ true ↦ set marks x 0 | false ↦ marks ]) e) }

-- a visit, by the node's two bytes
module _ (g : Graph) (limit : ℕ → ℕ) (n c : ℕ) (rows columns degrees limits marks : List ℕ) (t : Tables g rows columns) (held : Held g limit n c degrees limits marks) (x : ℕ) (h : x < n + c) where
  lacking : lacks degrees limits x ≡ short g limit marks x
  lacking =
      lacks_short g t.by_ride.wide t.by_operator.wide limit n c degrees limits marks held x (omega (arith, held.remaining.operators_are, held.remaining.rides_are))

  -- whose degree is at least its limit stays
  pub visited_kept : get_or limits x 0 ≤ get_or degrees x 0 → Visited g limit marks x 0 marks
  visited_kept l = visited_as g limit marks x false (sym lacking ∙ le-ltb (get_or degrees x 0) (get_or limits x 0) l)

  -- whose is not falls short
  pub falls_short : get_or degrees x 0 < get_or limits x 0 → T (short g limit marks x)
  falls_short k = subst T lacking (lt→ltb (get_or degrees x 0) (get_or limits x 0) k)

  pub visited_dropped : get_or degrees x 0 < get_or limits x 0 → (marks' : List ℕ) → marks' ≡ set marks x 0 → Visited g limit marks x 1 marks'
  visited_dropped k marks' e =
      subst (λ (s : List ℕ). Visited g limit marks x 1 s) (sym e) (visited_as g limit marks x true (test_true (short g limit marks x) (falls_short k)))

module _ (g : Graph) (limit : ℕ → ℕ) where
  pub shrunk_none : (marks : List ℕ) → Shrunk g limit marks marks
  shrunk_none marks = record { keeps = λ t m i. i; less = λ x. omega arith; tail = refl }

  pub shrunk_more : (marks marks' marks'' : List ℕ) → Shrunk g limit marks marks' → Shrunk g limit marks' marks'' → Shrunk g limit marks marks''
  shrunk_more marks marks' marks'' a b =
      record { keeps = λ t m i. b.keeps t m (a.keeps t m i); less = λ x. omega (arith, a.less x, b.less x); tail = b.tail ∙ a.tail }

  -- one node that falls short is dropped
  module _ (marks : List ℕ) (room : nodes g ≤ length marks) (x : ℕ) (h : x < nodes g) (f : T (short g limit marks x)) where
    shrunk_one : Shrunk g limit marks (set marks x 0)
    shrunk_one =
        record {
          keeps = λ t m i y l k. marked_stays marks x y (λ e. short_out g limit marks t i m x h f (subst (λ (z : ℕ). T (t z)) e k)) (i y l k);
          less = λ y.
              elim (ℕ_discrete y x) [
                | yes e ↦ omega (arith, ap (λ (z : ℕ). get_or (set marks x 0) z 0) e, get_or-set_same marks x 0 0 (omega arith))
                | no e ↦ omega (arith, get_or-set_other marks x y 0 0 e)
              ];
          tail = drop-set-lt (nodes g) marks x 0 h;
        }

    members_one : members g (set marks x 0) + 1 ≡ members g marks
    members_one =
        omega (
          arith,
          count_without
              (marked marks)
              (marked (set marks x 0))
              x
              (nodes g)
              (λ y l e. sym (marked_other marks x y e))
              h
              (marked_cleared marks x),
          ap bit (test_true (marked marks x) (short_marked g limit marks x f)),
        )

  -- no node swept yet
  pub swept_none : (marks : List ℕ) → Swept g limit 0 marks 0 marks
  swept_none marks =
      record { shrunk = shrunk_none marks; fewer = omega arith; same = λ e. refl; nobody = λ e y l. absurd (let z : ⊥ = omega arith in z) }

  -- one node more
  module _ (x : ℕ) (marks : List ℕ) (r : ℕ) (marks' : List ℕ) (s : Swept g limit x marks r marks') (h : x < nodes g) where
    swept_kept : (T (short g limit marks' x) → ⊥) → Swept g limit (x + 1) marks (r + 0) marks'
    swept_kept n =
        record {
          shrunk = s.shrunk;
          fewer = omega (arith, s.fewer);
          same = λ e. s.same (omega arith);
          nobody = λ e.
              below_more _ x (s.nobody (omega arith)) (λ f. n (subst (λ (m : List ℕ). T (short g limit m x)) (sym (s.same (omega arith))) f));
        }

    swept_dropped : nodes g ≤ length marks' → T (short g limit marks' x) → Swept g limit (x + 1) marks (r + 1) (set marks' x 0)
    swept_dropped room f =
        record {
          shrunk = shrunk_more marks marks' (set marks' x 0) s.shrunk (shrunk_one marks' room x h f);
          fewer = omega (arith, s.fewer, members_one marks' room x h f);
          same = λ e. absurd (let z : ⊥ = omega arith in z);
          nobody = λ e. absurd (let z : ⊥ = omega arith in z);
        }

    pub swept_more : nodes g ≤ length marks' → (v : ℕ) (marks'' : List ℕ) → Visited g limit marks' x v marks'' → Swept g limit (x + 1) marks (r + v) marks''
    swept_more room v marks'' w =
        by_test (short g limit marks' x)
        (λ f.
        let e = test_true (short g limit marks' x) f in
        subst₂ (λ (k : ℕ) (m : List ℕ). Swept g limit (x + 1) marks (r + k) m) (sym (w.dropped ∙ ap bit e)) (sym (w.marks_are ∙ ap (λ (b : Bool). elim b [ true ↦ set marks' x 0 | false ↦ marks' ]) e)) (swept_dropped room f))
        (λ n.
        let e = test_false (short g limit marks' x) n in
        subst₂ (λ (k : ℕ) (m : List ℕ). Swept g limit (x + 1) marks (r + k) m) (sym (w.dropped ∙ ap bit e)) (sym (w.marks_are ∙ ap (λ (b : Bool). elim b [ true ↦ set marks' x 0 | false ↦ marks' ]) e)) (swept_kept n))

-- all nodes swept
module _ (g : Graph) (limit : ℕ → ℕ) (n c : ℕ) (e : n ≡ g.operators) (f : c ≡ g.rides) (marks : List ℕ) (r : ℕ) (marks' : List ℕ) (s : Swept g limit (n + c) marks r marks') where
  -- where somebody was dropped, fewer nodes are marked
  pub swept_less : r ≢ 0 → count (n + c) (marked marks') < count (n + c) (marked marks)
  swept_less k =
      let same : (m : List ℕ) → count (n + c) (marked m) ≡ members g m = λ m. ap₂ (λ (a b : ℕ). count (a + b) (marked m)) e f in
      omega (arith, same marks, same marks', s.fewer)

  -- where nobody was, nobody falls short
  pub swept_settled : r ≡ 0 → T (settled g limit marks')
  swept_settled k =
      by_test (settled g limit marks') (λ t. t)
      (λ u.
      let w = unsettled_lowest g limit marks' u in
      absurd (s.nobody k (lowest (nodes g) (short g limit marks')) (omega (arith, w.node)) (subst (λ (m : List ℕ). T (short g limit m (lowest (nodes g) (short g limit marks')))) (s.same k) w.falls)))
