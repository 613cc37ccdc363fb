-- A build: what the numbers that don't apply say, and the whole outcome.
use mathlib.Core.Path.{◌≡◌, refl, sym, ap, ◌∙◌, subst}
use mathlib.Core.Logic.{◌≢◌}
use mathlib.Core.List.{List, map}
use Prim.Native.Nat.{ℕ, zero, suc, ◌+◌, ◌-◌, ◌*◌, ◌/◌, ◌%◌, ◌≤◌, ◌<◌}
use native.Mathlib.Omega.{arith}
use lib.Dec.{T, eqb}
use lib.Arith.{digits_lt}
use lib.ListN.{length, get_or, replicate, length-replicate, get_or-replicate}
use Rattle.model.specs.Count.{values, rows}
use Rattle.model.specs.Graph.{Graph, present, counting, index_of}
use Rattle.model.specs.Layout.{Operators, Rides, Stamps, Revisions, Index, PresenceStamps, PresenceRevisions, Presence, parts, Board, lent, pair_places, mark_places, over, sized, listed_graph}
use Rattle.model.specs.Contents.{Entry, Contents, given, counted, node_slot, pair_numbers, padded, words}
use Rattle.model.specs.Refusal.{build_refusal}
use Rattle.model.specs.Calls.{built, board_build}
use Rattle.model.specs.Outcome.{build_left}
use Rattle.model.proofs.Count.{bit_test}
use Rattle.model.proofs.Pairs.{rows_only, values_over}
use Rattle.model.proofs.Parts.{by_part}
use Rattle.model.proofs.Level.{index_same}
use Rattle.model.proofs.Presence.{all_count}
use Rattle.model.proofs.EndToEnd.{started, all_counted, node_started}
use Rattle.model.proofs.Refusal.{AcceptedTable, build_none}
use Rattle.arrays.specs.Filled.{filled}
use Rattle.arrays.proofs.Filled.{filled_at, filled_rest, length_filled}
use Rattle.pairs.specs.Accepted.{AcceptedPairs}
use Rattle.pairs.proofs.Table.{accepted_pairs}
use Rattle.part_stamps.specs.Stamps.{start_stamps}
use Rattle.pairs_change.specs.Change.{Arrays}

module _ (b : Board) (start : ℕ) where
  -- a build that is refused
  pub build_refused : (k : ℕ) → k ≡ build_refusal b start → k ≢ 0 → build_left k b ≡ board_build b start
  unfolding board_build
  build_refused zero e n = absurd (n refl)
  build_refused (suc k) e n = rw (sym e, board_build)

  module _ (none : build_refusal b start ≡ 0) where
    abbrev g : Graph
    g = listed_graph b

    abbrev says : Contents
    says = started g start

    pub build_table : AcceptedTable b
    build_table = (build_none b start none).0

    pub build_pairs : AcceptedPairs b.head (b.part Operators) (b.part Rides)
    build_pairs = accepted_pairs b build_table

    -- the pairs listed are those given
    all_given : g ≡ sized b.head (given says)
    all_given = λ j. sized b.head (λ u v. sym (bit_test (g.cleared u v)) j)

    -- every pair's revision is 0
    revisions_zeroed : filled 0 (pair_places b.head) 0 (b.part Revisions) ≡ over (rows b.head.operators b.head.rides (λ u v. 0)) (b.part Revisions)
    revisions_zeroed =
        ap (λ (l : List ℕ). over l (b.part Revisions))
        (ap (λ (k : ℕ). replicate k 0) (let e : pair_places b.head - 0 ≡ pair_places b.head = omega arith in e) ∙
        rows_only b.head.operators b.head.rides (λ u v. 0) (replicate (pair_places b.head) 0) (length-replicate {A = ℕ} (pair_places b.head) 0)
        (λ u v p q. get_or-replicate (pair_places b.head) (u * b.head.rides + v) 0 0 (digits_lt p q)))

    -- one word for every operator and ride
    nodes_filled : (f : Entry → ℕ) (old : List ℕ) → mark_places b.head ≤ length old → filled 0 (mark_places b.head) (f (record { stamp = 0; revision = 0; word = 1 })) old ≡ over (values (mark_places b.head) (λ x. f (says (node_slot b.head x)))) old
    nodes_filled f old long =
        let w : ℕ = mark_places b.head in
        let k : ℕ = f (record { stamp = 0; revision = 0; word = 1 }) in
        values_over w (λ x. f (says (node_slot b.head x))) (filled 0 w k old) old (omega (arith, length_filled old 0 k w (omega arith) long))
        (λ x l. filled_at old 0 k w (omega arith) long x (omega arith) l ∙ sym (ap f (node_started g start b.head x)))
        (filled_rest old 0 k w (omega arith) long)

    -- with everybody on and in the index is that of all pairs
    index_all : (presence : List ℕ) → presence ≡ filled 0 (mark_places b.head) 1 (b.part Presence) → index_of (counting g (present presence)) ≡ index_of (sized b.head (counted says))
    index_all presence e =
        let w : ℕ = mark_places b.head in
        let all : (x : ℕ) → x < w → T (present presence x) = λ x l. subst (λ (k : ℕ). T (eqb k 1)) (sym (ap (λ (p : List ℕ). get_or p x 0) e ∙ filled_at (b.part Presence) 0 1 w (omega arith) (build_table.long Presence) x (omega arith) l)) tt in
        index_same g (counting g (present presence)).cleared (λ u v p q. sym (all_count g (present presence) all u v p q)) ∙
        sym (index_same g (counted says) (λ u v p q. all_counted g start u v))

    pub build_done : (operators rides stamps revisions index stamps' revisions' presence : List ℕ) → Arrays b.head g (b.part Operators) (b.part Rides) b.head.pairs operators rides → stamps ≡ over (start_stamps g start) (b.part Stamps) → revisions ≡ filled 0 (pair_places b.head) 0 (b.part Revisions) → index ≡ over (index_of (counting g (present presence))) (b.part Index) → (stamps' ≡ filled 0 (mark_places b.head) 0 (b.part PresenceStamps)) × (revisions' ≡ filled 0 (mark_places b.head) 0 (b.part PresenceRevisions)) × (presence ≡ filled 0 (mark_places b.head) 1 (b.part Presence)) → build_left 0 (lent b.head operators rides stamps revisions index stamps' revisions' presence) ≡ board_build b start
    unfolding board_build built words start_stamps
    build_done operators rides stamps revisions index stamps' revisions' presence a s v i p =
        let places : ℕ = pair_places b.head in
        let count = a.pairs ∙ ap (λ (x : Graph). length (pair_numbers x)) all_given in
        let each =
        by_part (λ q. parts operators rides stamps revisions index stamps' revisions' presence q ≡ over (words b.head says q) (b.part q))
        (a.operator_words ∙ ap (λ (x : Graph). over (padded places (map (λ k. k / b.head.rides) (pair_numbers x))) (b.part Operators)) all_given)
        (a.ride_words ∙ ap (λ (x : Graph). over (padded places (map (λ k. k % b.head.rides) (pair_numbers x))) (b.part Rides)) all_given)
        s
        (v ∙ revisions_zeroed)
        (i ∙ ap (λ (l : List ℕ). over l (b.part Index)) (index_all presence p.2))
        (p.0 ∙ nodes_filled (λ e. e.stamp) (b.part PresenceStamps) (build_table.long PresenceStamps))
        (p.1 ∙ nodes_filled (λ e. e.revision) (b.part PresenceRevisions) (build_table.long PresenceRevisions))
        (p.2 ∙ nodes_filled (λ e. e.word) (b.part Presence) (build_table.long Presence)) in
        rw (none, board_build) (λ j. build_left 0 (record { head = record { operators = b.head.operators; rides = b.head.rides; pairs = count j }; part = λ q. each q j }))
