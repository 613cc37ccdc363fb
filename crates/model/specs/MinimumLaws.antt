-- Laws of minimums: document 02, 2.7.
use Rattle.std.specs.Prelude.{◌≡◌, ◌↔◌, ◌≢◌, ◌⊎◌, Bool, List, ◌++◌, ℕ, ◌+◌, ◌≤◌, ◌<◌, length, get_or}
use Rattle.model.specs.declared.Head.{Head}
use Rattle.model.specs.Graph.{Graph, Largest, own_limits, CoreInside, marked, present, index_of}
use Rattle.model.specs.Layout.{mark_places, counting_graph}
use Rattle.model.specs.Refusal.{first_number, peel_cases, peel_refusal}
use Rattle.model.specs.Calls.{board_query, board_peel, board_own_cover}
use Rattle.model.specs.CoverLaws.{AllOnes}
use Rattle.model.specs.PeelLaws.{IsPeeledCover, IsPeeledCore}
use Rattle.model.specs.QueryLaws.{IsCoverUnder, IsCore, Keeps}

-- the minimums of so many rides are all m
abbrev pub MinimumsAll : ℕ → List ℕ → ℕ → Type 0
MinimumsAll rides minimums m = (v : ℕ) → v < rides → get_or minimums v 0 ≡ m

-- the minimums of so many rides are each 0 or β
abbrev pub MinimumsZeroOr : ℕ → List ℕ → ℕ → Type 0
MinimumsZeroOr rides minimums β = (v : ℕ) → v < rides → (get_or minimums v 0 ≡ 0) ⊎ (get_or minimums v 0 ≡ β)

-- Document 02, 2.7, of the limits with any minimums; ride v is node operators + v
pub record OwnLimitsLaws (minimums : List ℕ) (α β : ℕ) : Type 0 where
  -- α for every operator
  pub operator : (operators u : ℕ) → u < operators → own_limits operators minimums α β u ≡ α
  -- a ride's own minimum where there is one, also where it is smaller than β; β elsewhere
  pub own : (operators v : ℕ) → get_or minimums v 0 ≢ 0 → own_limits operators minimums α β (operators + v) ≡ get_or minimums v 0
  pub none : (operators v : ℕ) → get_or minimums v 0 ≡ 0 → own_limits operators minimums α β (operators + v) ≡ β
  -- words behind the rides' minimums change no limit
  pub behind : (operators rides : ℕ) (more : List ℕ) → rides ≤ length minimums → (x : ℕ) → x < operators + rides →
      own_limits operators (minimums ++ more) α β x ≡ own_limits operators minimums α β x
  -- where they are all equal to one m above 0, the largest set under them is that of (α, m); where they are all 0, that of (α, β)
  pub all_equal : (g : Graph) (m : ℕ) → 1 ≤ m → MinimumsAll g.rides minimums m → (here s : ℕ → Bool) →
      Largest g (own_limits g.operators minimums α β) here s ↔ CoreInside g here α m s
  pub all_zero : (g : Graph) → MinimumsAll g.rides minimums 0 → (here s : ℕ → Bool) →
      Largest g (own_limits g.operators minimums α β) here s ↔ CoreInside g here α β s

-- "from all ones this is the cover", of any peel that isn't refused
pub record PeelIsCover (h : Head) (operators rides presence minimums marks : List ℕ) (α β allowed : ℕ) : Type 0 where
  -- the cover with minimums
  pub own : IsPeeledCover (counting_graph h operators rides presence) (present presence) (own_limits h.operators minimums α β) allowed
      (board_peel h operators rides presence minimums marks α β allowed)
  -- minimums all equal to one m above 0 give the cover (α, m), all 0 the cover (α, β)
  pub all_equal : (m : ℕ) → 1 ≤ m → MinimumsAll h.rides minimums m →
      IsPeeledCore (counting_graph h operators rides presence) (present presence) α m allowed
      (board_peel h operators rides presence minimums marks α β allowed)
  pub all_zero : MinimumsAll h.rides minimums 0 →
      IsPeeledCore (counting_graph h operators rides presence) (present presence) α β allowed
      (board_peel h operators rides presence minimums marks α β allowed)

-- Document 02, 2.7, of a cover with any minimums, of any pair table and any presence words
pub record OwnCoverLaws (h : Head) (operators rides presence minimums : List ℕ) (α β : ℕ) (marks : List ℕ) : Type 0 where
  -- 1 to 5; a short list of minimums is 3
  pub number : (board_own_cover h operators rides presence minimums α β marks).answer.code ≡ first_number (peel_cases h operators rides presence minimums marks)
  -- not refused, it is the largest set, of the pairs that count and those present, under α and each ride's own minimum, or β; its counts are its sizes
  pub own : (board_own_cover h operators rides presence minimums α β marks).answer.code ≡ 0 →
      IsCoverUnder (counting_graph h operators rides presence) (present presence) (own_limits h.operators minimums α β)
      (board_own_cover h operators rides presence minimums α β marks)
  -- a settled peel from all ones with the same minimums leaves the same set
  pub as_peel : (start : List ℕ) (allowed : ℕ) → (board_own_cover h operators rides presence minimums α β marks).answer.code ≡ 0 →
      peel_refusal h operators rides presence minimums start ≡ 0 → AllOnes (counting_graph h operators rides presence) start →
      (board_peel h operators rides presence minimums start α β allowed).answer.settled ≡ 1 → (x : ℕ) → x < mark_places h →
      marked (board_peel h operators rides presence minimums start α β allowed).marks x ≡ marked (board_own_cover h operators rides presence minimums α β marks).marks x
  -- minimums all equal to one m above 0 give the cover (α, m), all 0 the cover (α, β)
  pub all_equal : (m : ℕ) → 1 ≤ m → MinimumsAll h.rides minimums m → (board_own_cover h operators rides presence minimums α β marks).answer.code ≡ 0 →
      IsCore (counting_graph h operators rides presence) (present presence) α m (board_own_cover h operators rides presence minimums α β marks)
  pub all_zero : MinimumsAll h.rides minimums 0 → (board_own_cover h operators rides presence minimums α β marks).answer.code ≡ 0 →
      IsCore (counting_graph h operators rides presence) (present presence) α β (board_own_cover h operators rides presence minimums α β marks)
  -- so do minimums that are each 0 or β; a query for (α, β) on an index of the same pairs then gives the same
  pub zero_or : MinimumsZeroOr h.rides minimums β → (board_own_cover h operators rides presence minimums α β marks).answer.code ≡ 0 →
      IsCore (counting_graph h operators rides presence) (present presence) α β (board_own_cover h operators rides presence minimums α β marks)
  pub as_query : (more : List ℕ) → MinimumsZeroOr h.rides minimums β → (board_own_cover h operators rides presence minimums α β marks).answer.code ≡ 0 →
      board_query h (index_of (counting_graph h operators rides presence) ++ more) presence α β marks ≡ board_own_cover h operators rides presence minimums α β marks
  -- refused, it leaves the marks, and its counts are 0; places past operators + rides stay
  pub keeps : Keeps h marks (board_own_cover h operators rides presence minimums α β marks)
  -- the marks that come in aren't read, nor are words behind the rides' minimums
  pub any_answer : (other : List ℕ) → length other ≡ length marks →
      (board_own_cover h operators rides presence minimums α β other).answer ≡ (board_own_cover h operators rides presence minimums α β marks).answer
  pub any_behind : (more : List ℕ) → h.rides ≤ length minimums →
      board_own_cover h operators rides presence (minimums ++ more) α β marks ≡ board_own_cover h operators rides presence minimums α β marks
