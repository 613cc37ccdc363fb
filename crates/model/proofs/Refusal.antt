-- Laws of the numbers 1 to 10, 14 and 15: boards to which 1 to 6 do not apply, and valid messages.
use mathlib.Core.Path.{◌≡◌, sym, ap₂, ◌∙◌, subst}
use mathlib.Core.Bool.{Bool, ◌&&◌, ◌||◌}
use mathlib.Core.List.{List, [], ◌∷◌, ◌++◌}
use Prim.Native.Nat.{ℕ, ◌≤◌, ◌<◌}
use native.Mathlib.Omega.{arith}
use native.Mathlib.Decide.{dec_lt, dec_le}
use lib.Dec.{T, leb, eqb, leb→le, le→leb, eqb→eq, eqb_refl, T_not, not_T}
use borrow.Author.Tests.{le-leb, lt-leb, eq-eqb}
use lib.ListN.{length, get_or}
use Rattle.model.specs.declared.Head.{Head}
use Rattle.model.specs.declared.Message.{Message}
use Rattle.model.specs.Layout.{Part, Operators, Rides, Stamps, Board, pair_places, mark_places, places, listed_graph}
use Rattle.model.specs.Contents.{Slot, Pair, Operator, Ride, slot, pair_place}
use Rattle.model.specs.Refusal.{refused_1, refused_2, refused_3, refused_4, refused_5, refused_6, refused_7, refused_8, refused_9, refused_10, refused_14, refused_15, outside, unused, first_number, board_short, table_cases, peel_short, peel_cases, valid_cases, message_cases, build_refusal, message_refusal, list_refusal}
use Rattle.model.proofs.Count.{by_test, and_left, and_right, and_both, or_left, or_right, or_cases, some_holds, some_witness}
use Rattle.model.proofs.Chain.{Positive, first_nil, first_here, first_skip, first_none, first_behind, first_split, enough, not_less}
use Rattle.model.proofs.Parts.{board_long, long_board}
use Rattle.model.proofs.Pairs.{Pairs, listed_place, table_pairs, pairs_fit, pairs_accepted}

-- ---- 1 to 6

-- where neither 1 nor 2 applies
pub sizes_none : (h : Head) (cs : List (ℕ × Bool)) → first_number ((1, refused_1 h) ∷ (2, refused_2 h) ∷ cs) ≡ 0 → (h.operators ≤ 200) × (h.rides ≤ 60) × (first_number cs ≡ 0)
sizes_none h cs e =
    let n1 = first_none 0 (refused_1 h) _ e in
    let n2 = first_none 1 (refused_2 h) _ n1.1 in
    (enough 200 h.operators n1.0, enough 60 h.rides n2.0, n2.1)

-- a pair table to which none of 1 to 5 applies
pub record Unrefused (h : Head) (short : Bool) (operators rides : List ℕ) : Type 0 where
  pub few_operators : h.operators ≤ 200
  pub few_rides : h.rides ≤ 60
  pub long : T short → ⊥
  pub few_pairs : h.pairs ≤ pair_places h
  pub ordered : T (refused_5 h operators rides) → ⊥

pub table_unrefused : (h : Head) (short : Bool) (operators rides : List ℕ) (cs : List (ℕ × Bool)) → first_number (table_cases h short operators rides ++ cs) ≡ 0 → Unrefused h short operators rides × (first_number cs ≡ 0)
table_unrefused h short operators rides cs e =
    let s = sizes_none h _ e in
    let n3 = first_none 2 short _ s.2 in
    let n4 = first_none 3 (refused_4 h) _ n3.1 in
    let n5 = first_none 4 (refused_5 h operators rides) _ n4.1 in (
      record {
        few_operators = s.0;
        few_rides = s.1;
        long = n3.0;
        few_pairs = enough (pair_places h) h.pairs n4.0;
        ordered = n5.0;
      },
      n5.1,
    )

-- a board to which 1 to 5 do not apply
pub record AcceptedTable (b : Board) : Type 0 where
  pub few_operators : b.head.operators ≤ 200
  pub few_rides : b.head.rides ≤ 60
  pub long : (p : Part) → places b.head p ≤ length (b.part p)
  pub pairs : Pairs (listed_graph b) b.head.pairs (b.part Operators) (b.part Rides)

-- what 1 to 5 say of what is lent to a peel or a cover
pub record PeelLent (h : Head) (operators rides presence minimums marks : List ℕ) : Type 0 where
  pub table : Unrefused h (peel_short h operators rides presence minimums marks) operators rides
  pub operators_long : pair_places h ≤ length operators
  pub rides_long : pair_places h ≤ length rides
  pub presence_long : mark_places h ≤ length presence
  pub minimums_long : h.rides ≤ length minimums
  pub marks_long : mark_places h ≤ length marks

-- where none of its parts is too short
module _ (h : Head) (operators rides presence minimums marks : List ℕ) where
  abbrev o : Bool
  o = refused_3 (pair_places h) operators

  abbrev r : Bool
  r = refused_3 (pair_places h) rides

  abbrev p : Bool
  p = refused_3 (mark_places h) presence

  abbrev n : Bool
  n = refused_3 h.rides minimums

  abbrev m : Bool
  m = refused_3 (mark_places h) marks

  pub long_parts : (T (peel_short h operators rides presence minimums marks) → ⊥) → (pair_places h ≤ length operators) × (pair_places h ≤ length rides) × (mark_places h ≤ length presence) × (h.rides ≤ length minimums) × (mark_places h ≤ length marks)
  long_parts long = (
    enough (length operators) (pair_places h) (λ t. long (or_left (o || r || p || n) m (or_left (o || r || p) n (or_left (o || r) p (or_left o r t))))),
    enough (length rides) (pair_places h) (λ t. long (or_left (o || r || p || n) m (or_left (o || r || p) n (or_left (o || r) p (or_right o r t))))),
    enough (length presence) (mark_places h) (λ t. long (or_left (o || r || p || n) m (or_left (o || r || p) n (or_right (o || r) p t)))),
    enough (length minimums) h.rides (λ t. long (or_left (o || r || p || n) m (or_right (o || r || p) n t))),
    enough (length marks) (mark_places h) (λ t. long (or_right (o || r || p || n) m t)),
  )

  pub parts_long : pair_places h ≤ length operators → pair_places h ≤ length rides → mark_places h ≤ length presence → h.rides ≤ length minimums → mark_places h ≤ length marks → T (peel_short h operators rides presence minimums marks) → ⊥
  parts_long a b c d e s =
      or_cases (o || r || p || n) m s
      (λ s. or_cases (o || r || p) n s (λ s. or_cases (o || r) p s (λ s. or_cases o r s (not_less (length operators) (pair_places h) a) (not_less (length rides) (pair_places h) b)) (not_less (length presence) (mark_places h) c)) (not_less (length minimums) h.rides d))
      (not_less (length marks) (mark_places h) e)

  pub peel_lent : (cs : List (ℕ × Bool)) → first_number (peel_cases h operators rides presence minimums marks ++ cs) ≡ 0 → PeelLent h operators rides presence minimums marks × (first_number cs ≡ 0)
  peel_lent cs e =
      let u = table_unrefused h (peel_short h operators rides presence minimums marks) operators rides cs e in
      let long = long_parts u.0.long in
      (record { table = u.0; operators_long = long.0; rides_long = long.1; presence_long = long.2; minimums_long = long.3; marks_long = long.4 }, u.1)

-- a board to which 1 to 6 do not apply
pub record Accepted (b : Board) : Type 0 where
  pub table : AcceptedTable b
  pub stamped : (u v : ℕ) → T ((listed_graph b).cleared u v) → 1 ≤ get_or (b.part Stamps) (pair_place b.head u v) 0

module _ (b : Board) where
  abbrev h : Head
  h = b.head

  -- the numbers 1 to 5 of a board, and those behind them
  abbrev five : Bool → List (ℕ × Bool) → List (ℕ × Bool)
  five short cs = table_cases h short (b.part Operators) (b.part Rides) ++ cs

  pub table_none : (short : Bool) (cs : List (ℕ × Bool)) → (T (board_short b) → T short) → first_number (five short cs) ≡ 0 → AcceptedTable b × (T short → ⊥) × (first_number cs ≡ 0)
  table_none short cs s e =
      let u = table_unrefused h short (b.part Operators) (b.part Rides) cs e in (
        record {
          few_operators = u.0.few_operators;
          few_rides = u.0.few_rides;
          long = board_long b (λ t. u.0.long (s t));
          pairs = table_pairs h (b.part Operators) (b.part Rides) u.0.ordered;
        },
        u.0.long,
        u.1,
      )

  -- on such a board the numbers behind 5 decide
  pub table_skip : (short : Bool) (cs : List (ℕ × Bool)) → AcceptedTable b → (T short → ⊥) → first_number (five short cs) ≡ first_number cs
  table_skip short cs a n =
      first_skip 1 (refused_1 h) _ (not_less 200 h.operators a.few_operators) ∙
      first_skip 2 (refused_2 h) _ (not_less 60 h.rides a.few_rides) ∙
      first_skip 3 short _ n ∙
      first_skip 4 (refused_4 h) _ (not_less (pair_places h) h.pairs (pairs_fit h (b.part Operators) (b.part Rides) (listed_graph b).cleared a.pairs)) ∙
      first_skip 5 (refused_5 h (b.part Operators) (b.part Rides)) _ (pairs_accepted h (b.part Operators) (b.part Rides) (listed_graph b).cleared a.pairs)

  -- a lent part that is too short gives 3, where the sizes are in bounds
  pub short_three : (short : Bool) (cs : List (ℕ × Bool)) → h.operators ≤ 200 → h.rides ≤ 60 → T short → first_number (five short cs) ≡ 3
  short_three short cs o r t =
      first_skip 1 (refused_1 h) _ (not_less 200 h.operators o) ∙
      first_skip 2 (refused_2 h) _ (not_less 60 h.rides r) ∙
      first_here 3 short _ t

  -- the test of 6 at place i
  abbrev unstamped : ℕ → Bool
  unstamped i = eqb (get_or (b.part Stamps) (pair_place h (get_or (b.part Operators) i 0) (get_or (b.part Rides) i 0)) 0) 0

  stamped_none : (T (refused_6 b) → ⊥) → (u v : ℕ) → T ((listed_graph b).cleared u v) → 1 ≤ get_or (b.part Stamps) (pair_place h u v) 0
  unfolding refused_6
  stamped_none n u v t =
      let w = listed_place h.pairs (b.part Operators) (b.part Rides) u v t in
      let at : ℕ → ℕ → ℕ = λ x y. get_or (b.part Stamps) (pair_place h x y) 0 in
      let here : ℕ = at (get_or (b.part Operators) w.0 0) (get_or (b.part Rides) w.0 0) in
      let e : here ≡ at u v = ap₂ at w.2 w.3 in
      elim (dec_le 1 (at u v)) [
        | yes l ↦ l
        | no l ↦ absurd (n (some_holds unstamped h.pairs w.0 w.1 (subst (λ (x : ℕ). T (eqb x 0)) (let z : 0 ≡ here = omega arith in z) (eqb_refl 0))))
      ]

  none_stamped : Accepted b → T (refused_6 b) → ⊥
  unfolding refused_6
  none_stamped a t =
      let w = some_witness unstamped h.pairs t in
      let u : ℕ = get_or (b.part Operators) w.0 0 in
      let v : ℕ = get_or (b.part Rides) w.0 0 in
      omega (arith, a.stamped u v (a.table.pairs.holds w.0 w.1), eqb→eq (get_or (b.part Stamps) (pair_place h u v) 0) 0 w.2)

  pub accepted_none : (short : Bool) (cs : List (ℕ × Bool)) → (T (board_short b) → T short) → first_number (five short ((6, refused_6 b) ∷ cs)) ≡ 0 → Accepted b × (T short → ⊥) × (first_number cs ≡ 0)
  accepted_none short cs s e =
      let t = table_none short ((6, refused_6 b) ∷ cs) s e in
      let n6 = first_none 5 (refused_6 b) cs t.2 in
      (record { table = t.0; stamped = stamped_none n6.0 }, t.1, n6.1)

  -- on such a board the numbers behind 6 decide
  pub accepted_skip : (short : Bool) (cs : List (ℕ × Bool)) → Accepted b → (T short → ⊥) → first_number (five short ((6, refused_6 b) ∷ cs)) ≡ first_number cs
  accepted_skip short cs a n = table_skip short ((6, refused_6 b) ∷ cs) a.table n ∙ first_skip 6 (refused_6 b) cs (none_stamped a)

  pub table_long : AcceptedTable b → T (board_short b) → ⊥
  table_long a = long_board b a.long

  -- a build that is not refused
  pub build_none : (start : ℕ) → build_refusal b start ≡ 0 → AcceptedTable b × (1 ≤ start)
  unfolding build_refusal
  build_none start e =
      let t = table_none (board_short b) _ (λ s. s) e in
      (t.0, elim (dec_le 1 start) [ yes l ↦ l | no l ↦ absurd ((first_none 8 (refused_9 start) [] t.2).0 (subst (λ (x : ℕ). T (eqb x 0)) (let z : 0 ≡ start = omega arith in z) (eqb_refl 0))) ])

-- ---- 7 to 10, 14 and 15

-- the slot of a message, by its kind
module _ (m : Message) where
  pub slot_pair : m.kind ≤ 2 → slot m ≡ Pair m.operator m.ride
  unfolding slot
  slot_pair k = rw (le-leb m.kind 2 k, slot)

  pub slot_operator : 3 ≤ m.kind → m.kind ≤ 4 → slot m ≡ Operator m.operator
  unfolding slot
  slot_operator l k = rw (lt-leb m.kind 2 l, le-leb m.kind 4 k, slot)

  pub slot_ride : 5 ≤ m.kind → slot m ≡ Ride m.ride
  unfolding slot
  slot_ride l = rw (lt-leb m.kind 2 (let z : 2 < m.kind = omega arith in z), lt-leb m.kind 4 l, slot)

  -- one case for each
  pub by_kind {ℓ} : (P : Slot → Type ℓ) → (m.kind ≤ 2 → P (Pair m.operator m.ride)) → (3 ≤ m.kind → m.kind ≤ 4 → P (Operator m.operator)) → (5 ≤ m.kind → P (Ride m.ride)) → P (slot m)
  by_kind P f g r =
      elim (dec_le m.kind 2) [
        | yes k ↦ subst P (sym (slot_pair k)) (f k)
        | no k ↦
            elim (dec_le m.kind 4) [
              | yes l ↦ subst P (sym (slot_operator (omega arith) l)) (g (omega arith) l)
              | no l ↦ subst P (sym (slot_ride (omega arith))) (r (omega arith))
            ]
      ]

-- a slot in range
abbrev pub Within : Head → Slot → Type 0
Within h (Pair u v) = (u < h.operators) × (v < h.rides)
Within h (Operator u) = u < h.operators
Within h (Ride v) = v < h.rides

module _ (h : Head) where
  pub within_inside : (t : Slot) → Within h t → T (outside h t) → ⊥
  within_inside (Pair u v) w t =
      or_cases (leb h.operators u) (leb h.rides v) t
      (λ s. let z : ⊥ = omega (arith, leb→le h.operators u s, w.0) in z)
      (λ s. let z : ⊥ = omega (arith, leb→le h.rides v s, w.1) in z)
  within_inside (Operator u) w t = omega (arith, leb→le h.operators u t)
  within_inside (Ride v) w t = omega (arith, leb→le h.rides v t)

  pub inside_within : (t : Slot) → (T (outside h t) → ⊥) → Within h t
  inside_within (Pair u v) n = (
    elim (dec_lt u h.operators) [ yes l ↦ l | no l ↦ absurd (n (or_left (leb h.operators u) (leb h.rides v) (le→leb h.operators u (omega arith)))) ],
    elim (dec_lt v h.rides) [ yes l ↦ l | no l ↦ absurd (n (or_right (leb h.operators u) (leb h.rides v) (le→leb h.rides v (omega arith)))) ],
  )
  inside_within (Operator u) n = elim (dec_lt u h.operators) [ yes l ↦ l | no l ↦ absurd (n (le→leb h.operators u (omega arith))) ]
  inside_within (Ride v) n = elim (dec_lt v h.rides) [ yes l ↦ l | no l ↦ absurd (n (le→leb h.rides v (omega arith))) ]

-- of a head the sizes count alone
pub within_sizes : (h h' : Head) → h.operators ≡ h'.operators → h.rides ≡ h'.rides → (t : Slot) → Within h t → Within h' t
within_sizes h h' o r (Pair u v) w = (subst (λ (n : ℕ). u < n) o w.0, subst (λ (n : ℕ). v < n) r w.1)
within_sizes h h' o r (Operator u) w = subst (λ (n : ℕ). u < n) o w
within_sizes h h' o r (Ride v) w = subst (λ (n : ℕ). v < n) r w

-- a valid message: none of 7, 8, 9, 14 and 15 applies
pub record Valid (h : Head) (m : Message) : Type 0 where
  pub kind_low : 1 ≤ m.kind
  pub kind_high : m.kind ≤ 6
  pub within : Within h (slot m)
  pub stamp : 1 ≤ m.stamp
  pub revision : m.revision ≤ 255
  pub unused_zero : unused (slot m) m ≡ 0

pub valid_sizes : (h h' : Head) (m : Message) → h.operators ≡ h'.operators → h.rides ≡ h'.rides → Valid h m → Valid h' m
valid_sizes h h' m o r v =
    record {
      kind_low = v.kind_low;
      kind_high = v.kind_high;
      within = within_sizes h h' o r (slot m) v.within;
      stamp = v.stamp;
      revision = v.revision;
      unused_zero = v.unused_zero;
    }

module _ (h : Head) (m : Message) where
  pub valid_kind : 1 ≤ m.kind → m.kind ≤ 6 → T (refused_7 m) → ⊥
  valid_kind l u t =
      T_not (leb 1 m.kind && leb m.kind 6) t (and_both (leb 1 m.kind) (leb m.kind 6) (le→leb 1 m.kind l) (le→leb m.kind 6 u))

  pub valid_stamp : 1 ≤ m.stamp → T (refused_9 m.stamp) → ⊥
  valid_stamp s t = omega (arith, eqb→eq m.stamp 0 t)

  pub valid_revision : m.revision ≤ 255 → T (refused_14 m) → ⊥
  valid_revision = not_less 255 m.revision

  pub valid_unused : unused (slot m) m ≡ 0 → T (refused_15 m) → ⊥
  valid_unused e t = T_not (eqb (unused (slot m) m) 0) t (subst T (sym (eq-eqb (unused (slot m) m) 0 e)) tt)

  pub positive_valid : Positive (valid_cases h m)
  positive_valid = (omega arith, (omega arith, (omega arith, (omega arith, (omega arith, tt)))))

  pub none_valid : Valid h m → first_number (valid_cases h m) ≡ 0
  none_valid v =
      first_skip 7 (refused_7 m) _ (valid_kind v.kind_low v.kind_high) ∙
      first_skip 8 (refused_8 h m) _ (within_inside h (slot m) v.within) ∙
      first_skip 9 (refused_9 m.stamp) _ (valid_stamp v.stamp) ∙
      first_skip 14 (refused_14 m) _ (valid_revision v.revision) ∙
      first_skip 15 (refused_15 m) [] (valid_unused v.unused_zero) ∙
      first_nil

  pub valid_none : first_number (valid_cases h m) ≡ 0 → Valid h m
  valid_none e =
      let n7 = first_none 6 (refused_7 m) _ e in
      let n8 = first_none 7 (refused_8 h m) _ n7.1 in
      let n9 = first_none 8 (refused_9 m.stamp) _ n8.1 in
      let n14 = first_none 13 (refused_14 m) _ n9.1 in
      let n15 = first_none 14 (refused_15 m) [] n14.1 in
      let low : Bool = leb 1 m.kind in
      let high : Bool = leb m.kind 6 in
      let kind : T (low && high) = by_test (low && high) (λ t. t) (λ o. absurd (n7.0 (not_T (low && high) o))) in
      record {
        kind_low = leb→le 1 m.kind (and_left low high kind);
        kind_high = leb→le m.kind 6 (and_right low high kind);
        within = inside_within h (slot m) n8.0;
        stamp = elim (dec_le 1 m.stamp) [ yes l ↦ l | no l ↦ absurd (n9.0 (subst (λ (x : ℕ). T (eqb x 0)) (let e : 0 ≡ m.stamp = omega arith in e) (eqb_refl 0))) ];
        revision = enough 255 m.revision n14.0;
        unused_zero = by_test (eqb (unused (slot m) m) 0) (eqb→eq (unused (slot m) m) 0) (λ o. absurd (n15.0 (not_T (eqb (unused (slot m) m) 0) o)));
      }

-- ---- message and list

module _ (b : Board) (m : Message) where
  -- where none of 7 to 10, 14 and 15 applies, the message is valid and later
  pub cases_none : first_number (message_cases b m) ≡ 0 → Valid b.head m × (T (refused_10 b m) → ⊥)
  cases_none e =
      let s = first_split ((10, refused_10 b m) ∷ []) (valid_cases b.head m) (positive_valid b.head m) e in
      (valid_none b.head m s.0, (first_none 9 (refused_10 b m) [] s.1).0)

  -- a message that is taken: nothing applies
  pub taken_none : message_refusal b m ≡ 0 → Accepted b × Valid b.head m × (T (refused_10 b m) → ⊥)
  unfolding message_refusal
  taken_none e =
      let a = accepted_none b (board_short b) (message_cases b m) (λ t. t) e in
      let v = cases_none a.2 in
      (a.0, v.0, v.1)

  -- on an accepted board the message's own numbers decide
  pub message_accepted : Accepted b → message_refusal b m ≡ first_number (message_cases b m)
  unfolding message_refusal
  message_accepted a = accepted_skip b (board_short b) (message_cases b m) a (table_long b a.table)

  -- a valid message on an accepted board is refused exactly if 10 applies
  pub message_valid : Accepted b → Valid b.head m → message_refusal b m ≡ first_number ((10, refused_10 b m) ∷ [])
  message_valid a v =
      message_accepted a ∙
      first_behind ((10, refused_10 b m) ∷ []) (valid_cases b.head m) (positive_valid b.head m) (none_valid b.head m v)

module _ (b : Board) (messages : ℕ) (answers : List ℕ) where
  pub list_none : list_refusal b messages answers ≡ 0 → Accepted b × (messages ≤ length answers)
  unfolding list_refusal
  list_none e =
      let s : Bool = refused_3 messages answers in
      let a = accepted_none b (board_short b || s) [] (or_left (board_short b) s) e in
      (a.0, enough (length answers) messages (λ t. a.1 (or_right (board_short b) s t)))

  pub list_accepted : Accepted b → messages ≤ length answers → list_refusal b messages answers ≡ 0
  unfolding list_refusal first_number
  list_accepted a l =
      accepted_skip b (board_short b || refused_3 messages answers) [] a
      (λ t. or_cases (board_short b) (refused_3 messages answers) t (table_long b a.table) (not_less (length answers) messages l))
