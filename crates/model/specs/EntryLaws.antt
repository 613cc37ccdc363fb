-- Laws of entries, what is stored for a pair, an operator or a ride: document 02, 2.3 and 2.4.
use Rattle.std.specs.Prelude.{◌≡◌, ◌↔◌, ◌≢◌, false, [], ◌∷◌, ℕ, ◌<◌, T}
use Rattle.model.specs.declared.Message.{Message}
use Rattle.model.specs.Layout.{Board}
use Rattle.model.specs.Contents.{Slot, Pair, Operator, Ride, Entry, gives, later, slot, entry, contents}
use Rattle.model.specs.Refusal.{refused_7, refused_8, refused_9, refused_14, outside, unused, first_number, valid_cases, list_refusal}
use Rattle.model.specs.Calls.{board_build}
use Rattle.model.specs.Message.{board_message}

-- Document 02, 2.3 and 2.4: which of two entries of a pair, operator or ride is later
pub record LaterLaws : Type 0 where
  -- the larger stamp; at equal stamps the larger revision; at both equal, a withdrawal over a grant, off over on, out over in
  pub stamp : (e f : Entry) → f.stamp < e.stamp → T (later e f)
  pub revision : (e f : Entry) → e.stamp ≡ f.stamp → f.revision < e.revision → T (later e f)
  pub tie : (e f : Entry) → e.stamp ≡ f.stamp → e.revision ≡ f.revision → e.word ≢ 1 → f.word ≡ 1 → T (later e f)
  -- neither, where both are equal and both give or both take away; and never each later than the other
  pub alike : (e f : Entry) → e.stamp ≡ f.stamp → e.revision ≡ f.revision → gives e ≡ gives f → T (later e f) → ⊥
  pub one_way : (e f : Entry) → T (later e f) → T (later f e) → ⊥

-- Document 02, 2.3 and 2.4, of what a build and a message leave and answer, whatever revisions and words a board stores
pub record EntryLaws : Type 0 where
  -- a build sets revision 0 for every pair, and everybody on and in, with stamp and revision 0
  pub build : (b : Board) (start u v : ℕ) → (board_build b start).code ≡ 0 → u < b.head.operators → v < b.head.rides →
      (contents (board_build b start).board (Pair u v)).revision ≡ 0
  pub build_operator : (b : Board) (start u : ℕ) → (board_build b start).code ≡ 0 → u < b.head.operators →
      contents (board_build b start).board (Operator u) ≡ record { stamp = 0; revision = 0; word = 1 }
  pub build_ride : (b : Board) (start v : ℕ) → (board_build b start).code ≡ 0 → v < b.head.rides →
      contents (board_build b start).board (Ride v) ≡ record { stamp = 0; revision = 0; word = 1 }
  -- a taken message leaves its own stamp, revision and word, and every other pair, operator and ride keeps what it had
  pub own : (b : Board) (m : Message) → (board_message b m).answer.code ≡ 0 → contents (board_message b m).board (slot m) ≡ entry m
  pub others : (b : Board) (m : Message) (t : Slot) → (board_message b m).answer.code ≡ 0 → outside b.head t ≡ false → t ≢ slot m →
      contents (board_message b m).board t ≡ contents b t
  -- where none of 1 to 6 applies: 14 for a revision over 255, if none of 7 to 9 applies; 15 for an unused field that isn't 0, if none of these applies
  pub fourteen : (b : Board) (m : Message) → list_refusal b 0 [] ≡ 0 →
      first_number ((7, refused_7 m) ∷ (8, refused_8 b.head m) ∷ (9, refused_9 m.stamp) ∷ []) ≡ 0 → 255 < m.revision → (board_message b m).answer.code ≡ 14
  pub fifteen : (b : Board) (m : Message) → list_refusal b 0 [] ≡ 0 →
      first_number ((7, refused_7 m) ∷ (8, refused_8 b.head m) ∷ (9, refused_9 m.stamp) ∷ (14, refused_14 m) ∷ []) ≡ 0 → unused (slot m) m ≢ 0 →
      (board_message b m).answer.code ≡ 15
  -- and a valid message is taken exactly if it is later than the last of its pair, operator or ride
  pub taken : (b : Board) (m : Message) → list_refusal b 0 [] ≡ 0 → first_number (valid_cases b.head m) ≡ 0 →
      ((board_message b m).answer.code ≡ 0) ↔ T (later (entry m) (contents b (slot m)))
