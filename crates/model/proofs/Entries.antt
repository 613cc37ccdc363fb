-- What document 02, 2.3 and 2.4, says of stamps, revisions and words holds of the calls.
use mathlib.Core.Path.{◌≡◌, refl, sym, ap, ◌∙◌}
use mathlib.Core.Logic.{◌↔◌, ◌≢◌}
use mathlib.Core.Bool.{Bool}
use mathlib.Core.List.{List, [], ◌∷◌, ◌++◌}
use Prim.Native.Nat.{ℕ, ◌<◌}
use native.Mathlib.Omega.{arith}
use lib.Dec.{T, eqb, eqb→eq, T_not, not_T}
use lib.ListN.{length, drop}
use Rattle.model.specs.declared.Message.{Message}
use Rattle.model.specs.Layout.{Parts, Board, listed_graph}
use Rattle.model.specs.Contents.{Pair, Operator, Ride, Slot, Entry, Contents, later, slot, entry, put, contents, words}
use Rattle.model.specs.Refusal.{refused_7, refused_8, refused_9, refused_10, refused_14, refused_15, outside, unused, first_number, valid_cases, message_refusal, build_refusal, list_refusal}
use Rattle.model.specs.Calls.{start_contents, built, board_build}
use Rattle.model.specs.Message.{MessageOutcome, board_message}
use Rattle.model.specs.EntryLaws.{EntryLaws}
use Rattle.model.proofs.Count.{by_test}
use Rattle.model.proofs.Chain.{first_nil, first_here, first_skip, first_behind, lt_less}
use Rattle.model.proofs.Refusal.{Within, inside_within, Accepted, valid_none, list_none, taken_none, message_accepted, message_valid}
use Rattle.model.proofs.Contents.{put_same, put_other, Plain, plain_bit, contents_of}
use Rattle.model.proofs.Eleven.{build_code}
use Rattle.model.proofs.Presence.{fails}
use Rattle.model.proofs.Taken.{message_code, message_taken, says_after}

-- ---- a build

module _ (b : Board) (start : ℕ) where
  abbrev started : Contents
  started = start_contents (listed_graph b) start

  abbrev behind : Parts
  behind p = drop (length (words b.head started p)) (b.part p)

  plain_start : (t : Slot) → Plain t (started t)
  plain_start (Pair u v) = plain_bit (Pair u v) (started (Pair u v)) ((listed_graph b).cleared u v) refl
  plain_start (Operator u) = tt
  plain_start (Ride v) = tt

  -- a build that isn't refused says the start of every slot in range
  built_says : (board_build b start).code ≡ 0 → (t : Slot) → Within b.head t → contents (board_build b start).board t ≡ started t
  unfolding board_build built
  built_says e t w =
      let none : build_refusal b start ≡ 0 = sym (build_code b start _ refl) ∙ e in
      rw (none, board_build) (contents_of b.head started behind t w (plain_start t))

-- ---- a taken message

module _ (b : Board) (m : Message) (none : (board_message b m).answer.code ≡ 0) where
  refusal : message_refusal b m ≡ 0
  refusal = sym (message_code b m) ∙ none

  taken_says : (t : Slot) → Within b.head t → contents (board_message b m).board t ≡ put (contents b) (slot m) (entry m) t
  taken_says t w = ap (λ (o : MessageOutcome). contents o.board t) (message_taken b m refusal) ∙ says_after b m t w

  taken_within : Within b.head (slot m)
  taken_within = (taken_none b m refusal).1.within

-- ---- the numbers, where none of 1 to 6 applies

module _ (b : Board) (m : Message) (ready : list_refusal b 0 [] ≡ 0) where
  accepted : Accepted b
  accepted = (list_none b 0 [] ready).0

  -- the numbers before 14
  abbrev before_14 : List (ℕ × Bool)
  before_14 = (7, refused_7 m) ∷ (8, refused_8 b.head m) ∷ (9, refused_9 m.stamp) ∷ []

  gives_14 : first_number before_14 ≡ 0 → 255 < m.revision → (board_message b m).answer.code ≡ 14
  gives_14 e l =
      message_code b m ∙ message_accepted b m accepted ∙
      first_behind ((14, refused_14 m) ∷ (15, refused_15 m) ∷ (10, refused_10 b m) ∷ []) before_14 (omega arith, (omega arith, (omega arith, tt))) e ∙
      first_here 14 (refused_14 m) _ (lt_less 255 m.revision l)

  gives_15 : first_number (before_14 ++ (14, refused_14 m) ∷ []) ≡ 0 → unused (slot m) m ≢ 0 → (board_message b m).answer.code ≡ 15
  gives_15 e n =
      message_code b m ∙ message_accepted b m accepted ∙
      first_behind ((15, refused_15 m) ∷ (10, refused_10 b m) ∷ []) (before_14 ++ (14, refused_14 m) ∷ []) (omega arith, (omega arith, (omega arith, (omega arith, tt)))) e ∙
      first_here 15 (refused_15 m) _ (not_T (eqb (unused (slot m) m) 0) (λ t. n (eqb→eq (unused (slot m) m) 0 t)))

  module _ (none : first_number (valid_cases b.head m) ≡ 0) where
    decided : (board_message b m).answer.code ≡ first_number ((10, refused_10 b m) ∷ [])
    decided = message_code b m ∙ message_valid b m accepted (valid_none b.head m none)

    taken_exactly : ((board_message b m).answer.code ≡ 0) ↔ T (later (entry m) (contents b (slot m)))
    unfolding refused_10
    taken_exactly = (
      λ e. by_test (later (entry m) (contents b (slot m))) (λ t. t) (λ n. absurd (let z : ⊥ = omega (arith, sym decided ∙ e, first_here 10 (refused_10 b m) [] (not_T (later (entry m) (contents b (slot m))) n)) in z)),
      λ t. decided ∙ first_skip 10 (refused_10 b m) [] (λ n. T_not (later (entry m) (contents b (slot m))) n t) ∙ first_nil,
    )

pub entry_laws : EntryLaws
entry_laws =
    record {
      build = λ b start u v e p q. ap (λ (x : Entry). x.revision) (built_says b start e (Pair u v) (p, q));
      build_operator = λ b start u e p. built_says b start e (Operator u) p;
      build_ride = λ b start v e p. built_says b start e (Ride v) p;
      own = λ b m e. taken_says b m e (slot m) (taken_within b m e) ∙ put_same (contents b) (slot m) (entry m);
      others = λ b m t e o n. taken_says b m e t (inside_within b.head t (fails (outside b.head t) o)) ∙ put_other (contents b) (slot m) (entry m) t n;
      fourteen = gives_14;
      fifteen = gives_15;
      taken = taken_exactly;
    }
