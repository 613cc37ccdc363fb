-- A preview of the board of a book: the spare memory gets the board of the book with the message entered.
use mathlib.Core.Path.{◌≡◌, sym, ap, ◌∙◌, subst}
use mathlib.Core.List.{List, [], ◌∷◌, ◌++◌, append-nil}
use Prim.Native.Nat.{ℕ, ◌≤◌}
use lib.ListN.{take}
use lib.Seq.{take-length}
use Rattle.model.specs.declared.Head.{Head}
use Rattle.model.specs.declared.Message.{Message}
use Rattle.model.specs.Layout.{Part, Operators, Rides, Board, places, exact}
use Rattle.model.specs.Refusal.{message_refusal}
use Rattle.model.specs.Message.{board_message, board_preview}
use Rattle.model.proofs.Contents.{extend, places_of}
use Rattle.model.proofs.Preview.{preview_none, preview_code, preview_laws}
use Rattle.model_delivery.specs.Book.{valid_ones, book, written}
use Rattle.model_delivery.specs.Demand3.{CallsThenPreview}
use Rattle.model_delivery.proofs.Latest.{AllValid}
use Rattle.model_delivery.proofs.Run.{says, valid_in, laid_written, taken_valid, message_written}
use Rattle.model_delivery.proofs.Build.{table}
use Rattle.model_delivery.proofs.Demand3.{board_is_book, valid_book}

-- a board with nothing behind its parts
extend_none : (b : Board) → extend b (λ p. []) ≡ b
extend_none b = λ j. record { head = b.head; part = λ p. append-nil (b.part p) j }

module _ (h : Head) (es : List Message) where
  -- the board of a book has the lengths under Layout
  exact_written : exact (written h es) ≡ written h es
  unfolding written
  exact_written =
      let b : Board = written h es in
      let each : (p : Part) → take (places b.head p) (b.part p) ≡ b.part p = λ p. subst (λ (k : ℕ). take k (b.part p) ≡ b.part p) (laid_written h es p ∙ sym (places_of h (says h es) p)) (take-length (b.part p)) in
      λ j. record { head = b.head; part = λ p. each p j }

  module _ (few : h.operators ≤ 200) (few' : h.rides ≤ 60) (all : AllValid h es) (m : Message) (none : message_refusal (written h es) m ≡ 0) where
    sent_written : (board_message (written h es) m).board ≡ written h (es ++ (m ∷ []))
    unfolding valid_ones
    sent_written =
        ap (λ (b : Board). (board_message b m).board) (sym (extend_none (written h es))) ∙
        message_written h few few' (λ p. []) es all m ∙
        extend_none (written h (es ++ valid_ones h (m ∷ []))) ∙
        ap (λ (x : List Message). written h (es ++ x)) (valid_in h m [] (taken_valid h few few' (λ p. []) es all m (ap (λ (b : Board). message_refusal b m) (extend_none (written h es)) ∙ none)))

pub calls_then_preview : CallsThenPreview
calls_then_preview b start calls m spare e z =
    let t = table b start e in
    let h : Head = b.head in
    let es : List Message = book h (b.part Operators) (b.part Rides) start calls in
    subst (λ (x : Board). (board_preview x m spare).answer.code ≡ 0 → exact (board_preview x m spare).board ≡ written h (es ++ (m ∷ []))) (sym (board_is_book b start calls e))
    (λ z. let none = (preview_none (written h es) m spare.part (sym (preview_code (written h es) m spare) ∙ z)).2 in
    sym ((preview_laws (written h es) m spare).same_board z) ∙
    ap exact (sent_written h es t.few_operators t.few_rides (valid_book b start calls e) m none) ∙
    exact_written h (es ++ (m ∷ []))) z
