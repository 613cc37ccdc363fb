-- The starred samples of document 01 hold, and those of limits of 0, of previews, of revisions, of presence, of lists of limits, of limits by crowd, of minimums and of both: a test that is computed over each table, and the law that turns it into equations.
use mathlib.Core.Path.{◌≡◌, refl, ap₂}
use mathlib.Core.Bool.{Bool, true, false, ◌&&◌}
use mathlib.Core.List.{List, [], ◌∷◌}
use Prim.Native.Nat.{ℕ}
use lib.Dec.{T, eqb, eqb→eq}
use Rattle.model.specs.Count
use Rattle.model.specs.Graph
use Rattle.model.specs.Layout
use Rattle.model.specs.Contents
use Rattle.model.specs.Refusal
use Rattle.model.specs.Calls
use Rattle.model.specs.Crowd
use Rattle.model.specs.Message
use Rattle.model_samples.specs.Samples.{samples, zero_samples, preview_samples, revision_samples, presence_samples, limit_samples, crowd_samples, minimum_samples, both_samples, Agree}
use Rattle.model.proofs.Count.{and_left, and_right}

-- the test: two lists are equal word by word
abbrev same : List ℕ → List ℕ → Bool
same [] [] = true
same [] (y ∷ ys) = false
same (x ∷ xs) [] = false
same (x ∷ xs) (y ∷ ys) = eqb x y && same xs ys

abbrev all_same : List (List ℕ × List ℕ) → Bool
all_same [] = true
all_same (r ∷ rs) = same r.0 r.1 && all_same rs

same_equal : (xs ys : List ℕ) → T (same xs ys) → xs ≡ ys
same_equal [] [] t = refl
same_equal [] (y ∷ ys) t = absurd t
same_equal (x ∷ xs) [] t = absurd t
same_equal (x ∷ xs) (y ∷ ys) t = ap₂ ◌∷◌ (eqb→eq x y (and_left (eqb x y) (same xs ys) t)) (same_equal xs ys (and_right (eqb x y) (same xs ys) t))

all_agree : (rs : List (List ℕ × List ℕ)) → T (all_same rs) → Agree rs
all_agree [] t = tt
all_agree (r ∷ rs) t =
    (same_equal r.0 r.1 (and_left (same r.0 r.1) (all_same rs) t), all_agree rs (and_right (same r.0 r.1) (all_same rs) t))

tested : T (all_same samples) × T (all_same zero_samples) × T (all_same preview_samples) × T (all_same revision_samples) × T (all_same presence_samples) × T (all_same limit_samples) × T (all_same minimum_samples)
unfolding samples zero_samples preview_samples revision_samples presence_samples limit_samples minimum_samples Graph.raised Contents.slot Layout.copied Refusal.preview_refusal Message.board_preview Count.count Count.some Count.lowest Count.values Count.rows Graph.degree Graph.limits Graph.own_limits Graph.short Graph.settled Graph.removals Graph.without Graph.peel Graph.cover_under Graph.cover Graph.level_to Graph.level Graph.row Graph.index_of Layout.listed Layout.differing Refusal.misplaced Refusal.refused_5 Refusal.refused_12 Refusal.first_number Refusal.board_short Refusal.peel_refusal Refusal.own_cover_refusal Refusal.query_refusal Calls.query_marks Calls.counts Calls.board_query Calls.peeled Calls.board_peel Calls.present_cover Calls.board_own_cover Count.passing Refusal.build_refusal Refusal.refused_6 Refusal.refused_10 Refusal.message_refusal Calls.built Calls.board_build Contents.pair_numbers Contents.words Message.board_after Message.board_message
tested = (tt, tt, tt, tt, tt, tt, tt)

-- those of a crowd table, which look at every guest count
crowd_tested : T (all_same crowd_samples) × T (all_same both_samples)
unfolding crowd_samples both_samples Crowd.bands_holding Crowd.refused_16 Crowd.refused_17 Crowd.refused_18 Crowd.crowd_refusal Crowd.board_crowd_limits Crowd.crowd_cover_refusal Crowd.board_crowd_cover Graph.raised Count.count Count.some Count.lowest Graph.degree Graph.limits Graph.own_limits Graph.short Graph.settled Graph.removals Graph.without Graph.peel Graph.cover_under Layout.listed Refusal.misplaced Refusal.refused_5 Refusal.first_number Calls.counts Calls.present_cover
crowd_tested = (tt, tt)

pub samples_hold : Agree samples
samples_hold = all_agree samples tested.0

pub zero_samples_hold : Agree zero_samples
zero_samples_hold = all_agree zero_samples tested.1

pub preview_samples_hold : Agree preview_samples
preview_samples_hold = all_agree preview_samples tested.2

pub revision_samples_hold : Agree revision_samples
revision_samples_hold = all_agree revision_samples tested.3

pub presence_samples_hold : Agree presence_samples
presence_samples_hold = all_agree presence_samples tested.4

pub limit_samples_hold : Agree limit_samples
limit_samples_hold = all_agree limit_samples tested.5

pub crowd_samples_hold : Agree crowd_samples
crowd_samples_hold = all_agree crowd_samples crowd_tested.0

pub minimum_samples_hold : Agree minimum_samples
minimum_samples_hold = all_agree minimum_samples tested.6

pub both_samples_hold : Agree both_samples
both_samples_hold = all_agree both_samples crowd_tested.1
