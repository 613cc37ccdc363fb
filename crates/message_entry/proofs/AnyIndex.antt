-- A message is entered, or refused by its own numbers, in the same way whatever the index.
use mathlib.Core.Path.{◌≡◌, refl, ap, ◌∙◌}
use mathlib.Core.Bool.{not}
use mathlib.Core.List.{List, [], ◌∷◌, ◌++◌}
use Prim.Native.Nat.{ℕ, zero, suc}
use Rattle.model.specs.declared.Message.{Message}
use Rattle.model.specs.Layout.{Board, onto}
use Rattle.model.specs.Contents.{Slot, Pair, Operator, Ride, Contents, later, slot, entry, put, contents, board_of}
use Rattle.model.specs.Refusal.{refused_10, first_number, valid_cases}
use Rattle.model.specs.Message.{board_after}
use Rattle.message_entry.specs.Enter.{with_index, entered, number_of, entered_valid}

module _ (b : Board) (index : List ℕ) where
  contents_any : contents b ≡ contents (with_index b index)
  contents_any = λ j t. go t j
    where
      go : (t : Slot) → contents b t ≡ contents (with_index b index) t
      go (Pair u v) = refl
      go (Operator u) = refl
      go (Ride v) = refl

  module _ (m : Message) where
    pub entered_any : with_index (entered b m) index ≡ entered (with_index b index) m
    unfolding entered board_after
    entered_any = ap (λ (s : Contents). with_index (onto (board_of b.head (put s (slot m) (entry m))) b.part) index) contents_any

    pub number_any : number_of b m ≡ number_of (with_index b index) m
    unfolding refused_10
    number_any = ap (λ (s : Contents). first_number (valid_cases b.head m ++ ((10, not (later (entry m) (s (slot m)))) ∷ []))) contents_any

    pub entered_valid_any : with_index (entered_valid b m) index ≡ entered_valid (with_index b index) m
    entered_valid_any = go (number_of b m) ∙ ap (λ (n : ℕ). elim n [ zero ↦ entered (with_index b index) m | suc k ↦ with_index b index ]) number_any
      where
        go : (n : ℕ) → with_index (elim n [ zero ↦ entered b m | suc k ↦ b ]) index ≡ elim n [ zero ↦ entered (with_index b index) m | suc k ↦ with_index b index ]
        go zero = entered_any
        go (suc k) = refl
