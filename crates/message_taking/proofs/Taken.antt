-- A message that is taken: entered, with the index filled anew.
use mathlib.Core.Path.{◌≡◌, refl, sym, ap, ap₂, ◌∙◌, subst}
use mathlib.Core.Bool.{not}
use mathlib.Core.List.{List}
use Prim.Native.Nat.{ℕ, ◌≤◌}
use native.Mathlib.Omega.{arith}
use lib.Dec.{eqb}
use lib.ListN.{length, get_or, drop, get_or-append}
use Rattle.model.specs.declared.Message.{Message}
use Rattle.model.specs.Graph.{index_of}
use Rattle.model.specs.Layout.{Index, Presence, Board, index_places, over, board_graph, differing}
use Rattle.model.specs.Contents.{Contents, slot, entry, put, contents, words}
use Rattle.model.specs.Refusal.{message_refusal}
use Rattle.model.specs.Message.{board_after, board_message}
use Rattle.model.specs.Outcome.{answered}
use Rattle.model.proofs.Count.{count_ext}
use Rattle.model.proofs.Parts.{by_part}
use Rattle.model.proofs.Refusal.{Accepted, Valid, taken_none}
use Rattle.model.proofs.Contents.{length_words, index_words}
use Rattle.model.proofs.Taken.{accepted_after, message_taken}
use Rattle.index_board.specs.Filled.{Fillable, filled_board}
use Rattle.message_entry.specs.Enter.{Enters, with_index, entered}
use Rattle.message_entry.proofs.Next.{enters_of, entered_pairs}

module _ (b : Board) (m : Message) (none : message_refusal b m ≡ 0) where
  accepted : Accepted b
  accepted = (taken_none b m none).0

  valid : Valid b.head m
  valid = (taken_none b m none).1

  abbrev after : Contents
  after = put (contents b) (slot m) (entry m)

  pub take_ready : Enters b m
  take_ready = enters_of b m accepted valid

  -- the index can be filled once it is entered
  pub fill_ready : (x : Board) → x ≡ entered b m → Fillable x
  unfolding entered board_after
  fill_ready x q =
      subst Fillable (sym q)
      (record { pairs = entered_pairs b m accepted valid; presence = (accepted_after b m accepted valid).table.long Presence; index = accepted.table.long Index })

  -- the index of the pairs that then count
  index_after : index_of (board_graph (entered b m)) ≡ words b.head after Index
  unfolding entered board_after
  index_after = sym (index_words b.head after (λ p. drop (length (words b.head after p)) (b.part p)))

  -- with it in its place the board is the one after the message
  whole : with_index (entered b m) (over (words b.head after Index) (b.part Index)) ≡ board_after b m
  unfolding entered board_after
  whole =
      let each = by_part (λ p. (with_index (entered b m) (over (words b.head after Index) (b.part Index))).part p ≡ (board_after b m).part p) refl refl refl refl refl refl refl refl in
      λ j. record { head = (board_after b m).head; part = λ p. each p j }

  -- words behind the new ones don't count
  differing_over : (new : List ℕ) → index_places b.head ≤ length new → differing (index_places b.head) (b.part Index) (over new (b.part Index)) ≡ differing (index_places b.head) (b.part Index) new
  unfolding differing
  differing_over new l =
      let old : List ℕ = b.part Index in
      count_ext (λ (i : ℕ). not (eqb (get_or old i 0) (get_or (over new old) i 0))) (λ (i : ℕ). not (eqb (get_or old i 0) (get_or new i 0))) (index_places b.head)
      (λ i k. ap (λ (z : ℕ). not (eqb (get_or old i 0) z)) (get_or-append new (drop (length new) old) 0 i (omega arith)))

  pub take_done : (x : Board) → x ≡ entered b m → (differ : ℕ) (y : Board) → y ≡ filled_board x → differ ≡ differing (index_places x.head) (x.part Index) (index_of (board_graph x)) → answered (record { code = 0; differ = differ }) y ≡ board_message b m
  unfolding board_after entered
  take_done x q differ y i d =
      let new : List ℕ = words b.head after Index in
      let filled = i ∙ ap filled_board q ∙ ap (λ (l : List ℕ). with_index (entered b m) (over l (b.part Index))) index_after in
      let counted =
      d ∙ ap (λ (y : Board). differing (index_places y.head) (y.part Index) (index_of (board_graph y))) q ∙ ap (differing (index_places b.head) (b.part Index)) index_after ∙
      sym (differing_over new (omega (arith, length_words b.head after Index))) in
      ap₂ (λ (n : ℕ) (z : Board). answered (record { code = 0; differ = n }) z) counted (filled ∙ whole) ∙
      sym (message_taken b m none)
