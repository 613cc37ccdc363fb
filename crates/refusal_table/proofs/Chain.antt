-- The lowest number that applies, test by test, as the code goes through the numbers.
use mathlib.Core.Path.{◌≡◌, refl, sym, ◌∙◌}
use mathlib.Core.Logic.{◌≢◌}
use mathlib.Core.Bool.{Bool, true, false, ◌||◌}
use mathlib.Core.List.{List, [], ◌∷◌, ◌++◌}
use Prim.Native.Nat.{ℕ, ◌≤◌}
use native.Mathlib.Omega.{arith}
use lib.Dec.{T, ltb}
use lib.ListN.{length}
use Rattle.model.specs.declared.Head.{Head}
use Rattle.model.specs.Layout.{Operators, Rides, Stamps, Revisions, Index, PresenceStamps, PresenceRevisions, Presence, Board, pair_places, mark_places, index_places}
use Rattle.model.specs.Refusal.{refused_1, refused_2, refused_3, board_short, first_number, table_cases, query_refusal}
use Rattle.model.proofs.Count.{or_false}
use Rattle.model.proofs.Chain.{first_nil, first_none, Positive, front_is, behind_is}
use Rattle.model.proofs.Refusal.{Unrefused}
use Rattle.pairs.specs.Accepted.{AcceptedPairs}

-- ---- 3

module _ (b : Board) where
  -- 3 by the lengths, part by part, as the code tests them
  abbrev pub parts_short : Bool
  parts_short =
      ltb (length (b.part Operators)) (pair_places b.head) || (ltb (length (b.part Rides)) (pair_places b.head) ||
      (ltb (length (b.part Stamps)) (pair_places b.head) || (ltb (length (b.part Revisions)) (pair_places b.head) ||
      (ltb (length (b.part Index)) (index_places b.head) || (ltb (length (b.part PresenceStamps)) (mark_places b.head) ||
      (ltb (length (b.part PresenceRevisions)) (mark_places b.head) || ltb (length (b.part Presence)) (mark_places b.head)))))))

  pub short_parts : parts_short ≡ board_short b
  unfolding board_short
  short_parts = simp or_false

-- ---- 1 to 5, and numbers behind them

module _ (h : Head) (short : Bool) (operators rides : List ℕ) (ds : List (ℕ × Bool)) where
  positive : Positive (table_cases h short operators rides)
  positive = (omega arith, (omega arith, (omega arith, (omega arith, (omega arith, tt)))))

  pub table_first : (k : ℕ) → k ≡ first_number (table_cases h short operators rides) → k ≢ 0 → k ≡ first_number (table_cases h short operators rides ++ ds)
  table_first = front_is ds (table_cases h short operators rides) positive

  pub table_rest : (k : ℕ) → k ≡ first_number (table_cases h short operators rides) → k ≡ 0 → first_number ds ≡ first_number (table_cases h short operators rides ++ ds)
  table_rest = behind_is ds (table_cases h short operators rides) positive

-- ---- query

-- a number that is tested twice in a row
first_twice : (k : ℕ) (a b : Bool) (cs : List (ℕ × Bool)) → first_number ((k, a) ∷ (k, b) ∷ cs) ≡ first_number ((k, a || b) ∷ cs)
unfolding first_number
first_twice k true b cs = refl
first_twice k false b cs = refl

-- what `first` gives: a number where it applies, else the one after it
abbrev pub First : ℕ → Bool → ℕ → ℕ → Type 0
First k t after r = (cs : List (ℕ × Bool)) → after ≡ first_number cs → r ≡ first_number ((k, t) ∷ cs)

module _ (h : Head) (index presence marks : List ℕ) (r₁ r₂ r₃ r₄ r₅ : ℕ) where
  -- 3 of each part that a query is lent
  abbrev short_index : Bool
  short_index = refused_3 (index_places h) index

  abbrev short_presence : Bool
  short_presence = refused_3 (mark_places h) presence

  abbrev short_marks : Bool
  short_marks = refused_3 (mark_places h) marks

  pub query_first : First 3 short_marks 0 r₁ → First 3 short_presence r₁ r₂ → First 3 short_index r₂ r₃ → First 2 (refused_2 h) r₃ r₄ → First 1 (refused_1 h) r₄ r₅ → r₅ ≡ query_refusal h index presence marks
  unfolding query_refusal
  query_first l₁ l₂ l₃ l₄ l₅ =
      l₅ _ (l₄ _ (l₃ _ (l₂ _ (l₁ [] (sym first_nil))) ∙ first_twice 3 short_index short_presence ((3, short_marks) ∷ []) ∙ first_twice 3 (short_index || short_presence) short_marks []))

-- where none of 1 to 5 applies and the pair arrays are long enough, the pair table is accepted
pub table_accepted : (h : Head) (short : Bool) (operators rides : List ℕ) → Unrefused h short operators rides → pair_places h ≤ length operators → pair_places h ≤ length rides → AcceptedPairs h operators rides
table_accepted h short operators rides u a b =
    record {
      few_operators = u.few_operators;
      few_rides = u.few_rides;
      operators_long = omega (arith, u.few_pairs);
      rides_long = omega (arith, u.few_pairs);
      ordered = u.ordered;
    }

-- where none of 1 to 5 applies, nor one behind them, no part is too short
pub table_long : (h : Head) (short : Bool) (operators rides : List ℕ) (cs : List (ℕ × Bool)) → first_number (table_cases h short operators rides ++ cs) ≡ 0 → T short → ⊥
table_long h short operators rides cs e = (first_none 2 short _ (first_none 1 (refused_2 h) _ (first_none 0 (refused_1 h) _ e).1).1).0
