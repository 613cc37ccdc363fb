-- The board that a build left is the one worked out from the grants of the starting stamp.
use mathlib.Core.Path.{◌≡◌, refl, sym, ap, ap₂, ◌∙◌, subst}
use mathlib.Core.Logic.{inl, inr}
use mathlib.Core.Bool.{Bool, true, false}
use mathlib.Core.List.Memᴰ
use mathlib.Core.List.{List, [], ◌∷◌, ◌++◌, Memᴰ}
use mathlib.Core.Option.{Option, none, some}
use Prim.Native.Nat.{ℕ, zero, suc, ◌≤◌, ◌<◌}
use native.Mathlib.Omega.{arith}
use native.Mathlib.Decide.{dec_lt}
use lib.ListN.{get_or, take}
use lib.Seq.{get_or-take}
use Rattle.model.specs.declared.Head.{Head}
use Rattle.model.specs.declared.Message.{Message}
use Rattle.model.specs.Graph.{Graph}
use Rattle.model.specs.Count.{bit}
use Rattle.model.specs.Layout.{Operators, Rides, Board, listed, listed_graph}
use Rattle.model.specs.Contents.{Slot, Pair, Operator, Ride, Entry, slot, entry, unheard, board_of}
use Rattle.model.specs.Refusal.{unused, build_refusal}
use Rattle.model.specs.Calls.{start_contents, built, board_build}
use Rattle.model.proofs.Count.{test_true, test_false}
use Rattle.model.proofs.Pairs.{listed_place, place_listed}
use Rattle.model.proofs.Refusal.{slot_pair, Within, AcceptedTable, Valid, build_none}
use Rattle.model.proofs.Contents.{pair_equal, pair_or_operator, pair_or_ride, board_of_same, exact_onto}
use Rattle.model_delivery.specs.Calls.{built_board}
use Rattle.model_delivery.specs.Book.{grants, latest, said, written}
use Rattle.model_delivery.proofs.Latest.{Is, latest_is, AllValid}

-- ---- the grants

module _ (operators rides : List ℕ) (start : ℕ) where
  -- the grant of the pair at place i
  abbrev grant : ℕ → Message
  grant i = record { kind = 1; operator = get_or operators i 0; ride = get_or rides i 0; revision = 0; stamp = start }

  grants_place : (n : ℕ) (e : Message) → Memᴰ e (grants n operators rides start) → (i : ℕ) × (i < n) × (e ≡ grant i)
  unfolding grants
  grants_place zero e m = absurd (Memᴰ.not-nil m)
  grants_place (suc n) e m =
      elim (Memᴰ.append_cases (grants n operators rides start) m) [
        | inl i ↦ (let w = grants_place n e i in (w.0, omega (arith, w.1), w.2))
        | inr i ↦ (n, omega arith, Memᴰ.eq_of_singleton i)
      ]

  grants_holds : (n i : ℕ) → i < n → Memᴰ (grant i) (grants n operators rides start)
  unfolding grants
  grants_holds zero i h = absurd (let z : ⊥ = omega arith in z)
  grants_holds (suc n) i h =
      elim (dec_lt i n) [
        | yes l ↦ Memᴰ.append_left (grant n ∷ []) (grants_holds n i l)
        | no l ↦ Memᴰ.append_right (grants n operators rides start) (Memᴰ.head (ap grant (let q : i ≡ n = omega arith in q)))
      ]

  grant_slot : (i : ℕ) → slot (grant i) ≡ Pair (get_or operators i 0) (get_or rides i 0)
  grant_slot i = slot_pair (grant i) (omega arith)

  -- no grant speaks of an operator or a ride
  grants_none : (n : ℕ) (t : Slot) (o : Option Message) → ((u v : ℕ) → Pair u v ≡ t → ⊥) → Is (grants n operators rides start) t o → unheard t ≡ said t o
  grants_none n t none other is = refl
  grants_none n t (some e) other is =
      let w = grants_place n e is.member in
      absurd (other (get_or operators w.0 0) (get_or rides w.0 0) (sym (ap slot w.2 ∙ grant_slot w.0) ∙ is.about))

  -- what the build says of a pair, by whether it is listed
  abbrev start_entry : Bool → Entry
  start_entry b = record { stamp = elim b [ true ↦ start | false ↦ 0 ]; revision = 0; word = bit b }

  -- a listed pair's latest entry is its grant, and no other pair has one
  grants_is : (n u v : ℕ) (o : Option Message) → Is (grants n operators rides start) (Pair u v) o → start_entry (listed n operators rides u v) ≡ said (Pair u v) o
  grants_is n u v none is =
      ap start_entry (test_false (listed n operators rides u v) (λ t. let w = listed_place n operators rides u v t in is (grant w.0) (grants_holds n w.0 w.1) (grant_slot w.0 ∙ ap₂ Pair w.2 w.3)))
  grants_is n u v (some e) is =
      let w = grants_place n e is.member in
      let q : Pair (get_or operators w.0 0) (get_or rides w.0 0) ≡ Pair u v = sym (ap slot w.2 ∙ grant_slot w.0) ∙ is.about in
      ap start_entry (test_true (listed n operators rides u v) (place_listed n operators rides u v w.0 w.1 (pair_equal _ _ u v q).0 (pair_equal _ _ u v q).1)) ∙ sym (ap entry w.2)

-- grants depend on the listed places alone
pub grants_same : (o r o' r' : List ℕ) (start n k : ℕ) → k ≤ n → take n o ≡ take n o' → take n r ≡ take n r' → grants k o r start ≡ grants k o' r' start
unfolding grants
grants_same o r o' r' start n zero h e d = refl
grants_same o r o' r' start n (suc k) h e d =
    let at : (x x' : List ℕ) → take n x ≡ take n x' → get_or x k 0 ≡ get_or x' k 0 = λ x x' q. sym (get_or-take n x k 0 h) ∙ ap (λ (l : List ℕ). get_or l k 0) q ∙ get_or-take n x' k 0 h in
    ap₂ ◌++◌ (grants_same o r o' r' start n k (omega arith) e d) (ap₂ (λ (u v : ℕ). record { kind = 1; operator = u; ride = v; revision = 0; stamp = start } ∷ []) (at o o' e) (at r r' d))

-- ---- the build

module _ (b : Board) (start : ℕ) (accepted : build_refusal b start ≡ 0) where
  abbrev h : Head
  h = b.head

  abbrev g : Graph
  g = listed_graph b

  pub table : AcceptedTable b
  table = (build_none b start accepted).0

  abbrev start_grants : List Message
  start_grants = grants h.pairs (b.part Operators) (b.part Rides) start

  pub valid_grants : AllValid h start_grants
  valid_grants e m =
      let w = grants_place (b.part Operators) (b.part Rides) start h.pairs e m in
      subst (Valid h) (sym w.2)
      (record {
        kind_low = omega arith;
        kind_high = omega arith;
        within = subst (Within h) (sym (grant_slot (b.part Operators) (b.part Rides) start w.0)) (table.pairs.operator w.0 w.1, table.pairs.ride w.0 w.1);
        stamp = (build_none b start accepted).1;
        revision = omega arith;
        unused_zero = ap (λ (t : Slot). unused t (grant (b.part Operators) (b.part Rides) start w.0)) (grant_slot (b.part Operators) (b.part Rides) start w.0);
      })

  built_of : built_board b start ≡ board_of h (start_contents g start)
  unfolding built_board board_build built
  built_of = rw (accepted, board_build) (exact_onto h (start_contents g start) b.part)

  pub built_written : built_board b start ≡ written h start_grants
  unfolding written
  built_written =
      built_of ∙ board_of_same h (start_contents g start) (λ t. said t (latest start_grants t)) says
    where
      says : (t : Slot) → Within h t → start_contents g start t ≡ said t (latest start_grants t)
      says (Pair u v) w =
          grants_is (b.part Operators) (b.part Rides) start h.pairs u v (latest start_grants (Pair u v)) (latest_is start_grants (Pair u v))
      says (Operator u) w =
          grants_none (b.part Operators) (b.part Rides) start h.pairs (Operator u) (latest start_grants (Operator u)) (λ a d q. pair_or_operator a d u q) (latest_is start_grants (Operator u))
      says (Ride v) w =
          grants_none (b.part Operators) (b.part Rides) start h.pairs (Ride v) (latest start_grants (Ride v)) (λ a d q. pair_or_ride a d v q) (latest_is start_grants (Ride v))
