-- Document 01, Book: the entries, and the board worked out from them. No answer and no word of the board comes in.
use Rattle.std.specs.Prelude.{Bool, true, false, ◌||◌, List, [], ◌∷◌, ◌++◌, ℕ, zero, suc, ◌+◌, min, ltb, eqb, length, get_or}
use Rattle.std.proofs.Math.Option.{Option, none, some}
use Rattle.model.specs.declared.Head.{Head}
use Rattle.model.specs.declared.Message.{Message}
use Rattle.model.specs.Layout.{Board, places, all_parts, some_part}
use Rattle.model.specs.Contents.{Slot, same_slot, Entry, later, slot, entry, unheard, board_of}
use Rattle.model.specs.Refusal.{first_number, valid_cases}
use Rattle.model_delivery.specs.Calls.{Lent, Lending, Call, sent}

-- the length of what is lent of a part that has so many places
abbrev pub lent_length : ℕ → Lent → ℕ
lent_length places (Lent.cut n) = min n places
lent_length places (Lent.whole more) = places + length more

-- a part of the board is lent too short, by the lengths
abbrev pub parts_short : Head → Lending → Bool
parts_short h l =
    some_part (λ p. ltb (lent_length (places h p) (l p)) (places h p)) all_parts

-- case 3 of a call, by the lengths of what is lent: a part of the board or the answer list is too short
unfoldable pub too_short : Head → Call → Bool
too_short h (Call.message l m) = parts_short h l
too_short h (Call.messages l ms answers) = parts_short h l || ltb (length answers) (length ms)

-- a message is valid if none of 7, 8, 9, 14 and 15 applies
unfoldable pub valid : Head → Message → Bool
valid h m = eqb (first_number (valid_cases h m)) 0

-- the messages that are valid
unfoldable pub valid_ones : Head → List Message → List Message
valid_ones h [] = []
valid_ones h (m ∷ ms) = elim (valid h m) [ true ↦ m ∷ valid_ones h ms | false ↦ valid_ones h ms ]

-- what a call enters: each of its messages, but for one that isn't valid; with case 3 nothing
abbrev pub call_entries : Head → Call → List Message
call_entries h c = elim (too_short h c) [ true ↦ [] | false ↦ valid_ones h (sent c) ]

-- the entries of a list of calls
unfoldable pub entries : Head → List Call → List Message
entries h [] = []
entries h (c ∷ cs) = call_entries h c ++ entries h cs

-- the entries after the build: a grant of the starting stamp and revision 0 for each of n listed pairs
unfoldable pub grants : ℕ → List ℕ → List ℕ → ℕ → List Message
grants zero operators rides start = []
grants (suc n) operators rides start =
    grants n operators rides start ++
    (record { kind = 1; operator = get_or operators n 0; ride = get_or rides n 0; revision = 0; stamp = start } ∷ [])

-- Book: the entries after a list of calls, from the pair table, the starting stamp and the calls; an entry is a message
unfoldable pub book : Head → List ℕ → List ℕ → ℕ → List Call → List Message
book h operators rides start calls = grants h.pairs operators rides start ++ entries h calls

-- the later of an entry and the latest of others
abbrev pub later_one : Message → Option Message → Option Message
later_one e none = some e
later_one e (some f) = elim (later (entry e) (entry f)) [ true ↦ some e | false ↦ some f ]

-- the latest entry for a slot, if there is one
unfoldable pub latest : List Message → Slot → Option Message
latest [] t = none
latest (e ∷ es) t = elim (same_slot (slot e) t) [ true ↦ later_one e (latest es t) | false ↦ latest es t ]

-- what the book says of a slot with this latest entry; with no entry it was never heard of
abbrev pub said : Slot → Option Message → Entry
said t none = unheard t
said t (some e) = entry e

-- the board worked out from a book: each pair, operator and ride with an entry has its latest entry's stamp and revision; the pair is listed, the
-- operator on and the ride in exactly if that is of kind 1, 3 or 5; the index is that of the listed pairs that count
unfoldable pub written : Head → List Message → Board
written h es = board_of h (λ t. said t (latest es t))
