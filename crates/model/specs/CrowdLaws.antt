-- Laws of limits by crowd: document 02, 2.6 and 2.8.
use Rattle.std.specs.Prelude.{◌≡◌, ◌↔◌, ◌≢◌, List, ◌++◌, ℕ, ◌≤◌, ◌<◌, length}
use Rattle.model.specs.declared.Head.{Head}
use Rattle.model.specs.declared.Bands.{Bands}
use Rattle.model.specs.Graph.{own_limits, present, index_of}
use Rattle.model.specs.Layout.{counting_graph}
use Rattle.model.specs.Refusal.{first_number, peel_cases}
use Rattle.model.specs.Calls.{board_query, board_own_cover}
use Rattle.model.specs.Crowd.{most_guests, band, board_crowd_limits, board_crowd_cover}
use Rattle.model.specs.QueryLaws.{IsCoverUnder, IsCore, Keeps}
use Rattle.model.specs.MinimumLaws.{MinimumsAll, MinimumsZeroOr}

-- Document 02, 2.6. Guest count c falls in band i of a table
pub record FallsIn (t : Bands) (c i : ℕ) : Type 0 where
  pub read : i < t.count
  pub from : (band t i).first ≤ c
  pub to : c ≤ (band t i).last

-- a guest count falls in exactly one band
pub record InOneBand (t : Bands) (c : ℕ) : Type 0 where
  pub place : ℕ
  pub falls : FallsIn t c place
  pub only : (i : ℕ) → FallsIn t c i → i ≡ place

-- a guest count from 0 to 20,000 falls in two bands
pub record Overlap (t : Bands) : Type 0 where
  pub guests : ℕ
  pub in_range : guests ≤ most_guests
  pub one : ℕ
  pub other : ℕ
  pub differ : one ≢ other
  pub falls_one : FallsIn t guests one
  pub falls_other : FallsIn t guests other

-- a guest count from 0 to 20,000 falls in no band
pub record Gap (t : Bands) : Type 0 where
  pub guests : ℕ
  pub in_range : guests ≤ most_guests
  pub none : (i : ℕ) → FallsIn t guests i → ⊥

-- one to eight bands, none whose first count exceeds its last, and none with a guest count above 20,000: where its last isn't, its first isn't
pub record Formed (t : Bands) : Type 0 where
  pub least : 1 ≤ t.count
  pub most : t.count ≤ 8
  pub ordered : (i : ℕ) → i < t.count → (band t i).first ≤ (band t i).last
  pub in_range : (i : ℕ) → i < t.count → (band t i).last ≤ most_guests

-- Document 02, 2.6, of a look-up in any table, for any guest count
pub record CrowdLimitsLaws (t : Bands) (guests : ℕ) : Type 0 where
  -- accepted exactly if every guest count from 0 to 20,000 falls in exactly one band, and 16 doesn't apply
  pub accepted : ((board_crowd_limits t guests).code ≡ 0) ↔ (Formed t × (guests ≤ most_guests) × ((c : ℕ) → c ≤ most_guests → InOneBand t c))
  -- 16; otherwise an overlap gives 17; otherwise a gap gives 18
  pub sixteen : ((board_crowd_limits t guests).code ≡ 16) ↔ ((Formed t × (guests ≤ most_guests)) → ⊥)
  pub seventeen : ((board_crowd_limits t guests).code ≡ 17) ↔ (Formed t × (guests ≤ most_guests) × Overlap t)
  pub eighteen : ((board_crowd_limits t guests).code ≡ 18) ↔ (Formed t × (guests ≤ most_guests) × (Overlap t → ⊥) × Gap t)
  -- it gives the limits of the band that the guest count falls in
  pub alpha : (board_crowd_limits t guests).code ≡ 0 → (i : ℕ) → FallsIn t guests i → (board_crowd_limits t guests).alpha ≡ (band t i).alpha
  pub beta : (board_crowd_limits t guests).code ≡ 0 → (i : ℕ) → FallsIn t guests i → (board_crowd_limits t guests).beta ≡ (band t i).beta
  -- every number beside a refusal is 0
  pub no_alpha : (board_crowd_limits t guests).code ≢ 0 → (board_crowd_limits t guests).alpha ≡ 0
  pub no_beta : (board_crowd_limits t guests).code ≢ 0 → (board_crowd_limits t guests).beta ≡ 0

-- Document 02, 2.6 and 2.8, of a cover for any guest count by any table, with any minimums, of any pair table and any presence words
pub record CrowdCoverLaws (h : Head) (operators rides presence : List ℕ) (t : Bands) (guests : ℕ) (minimums marks : List ℕ) : Type 0 where
  -- the board's own checks come first, 1 to 5, with 3 for a short list of minimums; where none applies it has the number of the look-up
  pub board_first : first_number (peel_cases h operators rides presence minimums marks) ≢ 0 →
      (board_crowd_cover h operators rides presence t guests minimums marks).answer.code ≡ first_number (peel_cases h operators rides presence minimums marks)
  pub then_bands : first_number (peel_cases h operators rides presence minimums marks) ≡ 0 →
      (board_crowd_cover h operators rides presence t guests minimums marks).answer.code ≡ (board_crowd_limits t guests).code
  -- where the look-up isn't refused, it is the own cover for the look-up's limits with the same minimums, refused or not
  pub as_own : (board_crowd_limits t guests).code ≡ 0 →
      board_crowd_cover h operators rides presence t guests minimums marks
      ≡ board_own_cover h operators rides presence minimums (board_crowd_limits t guests).alpha (board_crowd_limits t guests).beta marks
  -- not refused, it is the largest set, of the pairs that count and those present, under the look-up's α and each ride's own minimum, or the
  -- look-up's β; its counts are its sizes
  pub own : (board_crowd_cover h operators rides presence t guests minimums marks).answer.code ≡ 0 →
      IsCoverUnder (counting_graph h operators rides presence) (present presence)
      (own_limits h.operators minimums (board_crowd_limits t guests).alpha (board_crowd_limits t guests).beta)
      (board_crowd_cover h operators rides presence t guests minimums marks)
  -- it is what it is with zeros, wherever it is refused, and where its minimums are each 0 or the look-up's β
  pub unchanged : (zeros : List ℕ) → MinimumsAll h.rides zeros 0 → h.rides ≤ length zeros → h.rides ≤ length minimums →
      ((board_crowd_cover h operators rides presence t guests minimums marks).answer.code ≡ 0 → MinimumsZeroOr h.rides minimums (board_crowd_limits t guests).beta) →
      board_crowd_cover h operators rides presence t guests minimums marks ≡ board_crowd_cover h operators rides presence t guests zeros marks
  -- with such minimums and not refused, it is what 2.6 gives: the core for the look-up's limits, and what a query for these gives on an index of
  -- the same pairs
  pub core : MinimumsZeroOr h.rides minimums (board_crowd_limits t guests).beta →
      (board_crowd_cover h operators rides presence t guests minimums marks).answer.code ≡ 0 →
      IsCore (counting_graph h operators rides presence) (present presence) (board_crowd_limits t guests).alpha (board_crowd_limits t guests).beta
      (board_crowd_cover h operators rides presence t guests minimums marks)
  pub as_query : (more : List ℕ) → MinimumsZeroOr h.rides minimums (board_crowd_limits t guests).beta →
      (board_crowd_cover h operators rides presence t guests minimums marks).answer.code ≡ 0 →
      board_query h (index_of (counting_graph h operators rides presence) ++ more) presence (board_crowd_limits t guests).alpha (board_crowd_limits t guests).beta marks
      ≡ board_crowd_cover h operators rides presence t guests minimums marks
  -- refused, it leaves the marks, and its counts are 0; places past operators + rides stay
  pub keeps : Keeps h marks (board_crowd_cover h operators rides presence t guests minimums marks)
  -- the marks that come in aren't read, nor are words behind the rides' minimums
  pub any_answer : (other : List ℕ) → length other ≡ length marks →
      (board_crowd_cover h operators rides presence t guests minimums other).answer ≡ (board_crowd_cover h operators rides presence t guests minimums marks).answer
  pub any_behind : (more : List ℕ) → h.rides ≤ length minimums →
      board_crowd_cover h operators rides presence t guests (minimums ++ more) marks ≡ board_crowd_cover h operators rides presence t guests minimums marks
