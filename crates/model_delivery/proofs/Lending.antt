-- Lending: a part that is long enough is whole, its length follows from that of the board's part, and what was not lent stays.
use mathlib.Core.Path.{◌≡◌, refl, sym, ap, ap₂, ◌∙◌}
use mathlib.Core.List.{List, [], ◌++◌, append-nil, append_assoc}
use Prim.Native.Nat.{ℕ, ◌≤◌}
use native.Mathlib.Omega.{arith}
use native.Mathlib.Decide.{dec_le}
use lib.Dec.{ltb}
use lib.ListN.{length, take, drop, length-append, length-take, take-append-drop}
use lib.Seq.{take_all, take-length, take_at, take-append_seam, length-take-le}
use Rattle.model.specs.declared.Head.{Head}
use Rattle.model.specs.Layout.{Part, Parts, Board, places, all_parts, some_part}
use Rattle.model.specs.Refusal.{board_short}
use Rattle.model.proofs.Contents.{extend}
use Rattle.model_delivery.specs.Calls.{Lent, cut, whole, got, Lending, lend, back, take_back}
use Rattle.model_delivery.specs.Book.{lent_length, parts_short}

pub length_got : (l : Lent) (part : List ℕ) → length (got l part) ≡ lent_length (length part) l
length_got (cut n) part = length-take n part
length_got (whole more) part = length-append part more

-- a part that is long enough is lent whole, with some words behind it
pub got_whole : (l : Lent) (part : List ℕ) → length part ≤ length (got l part) → (more : List ℕ) × (got l part ≡ part ++ more)
got_whole (cut n) part h = ([], take_all n part (omega (arith, length-take n part)) ∙ sym (append-nil part))
got_whole (whole more) part h = (more, refl)

-- a lent part that the call left as it was
pub back_same : (l : Lent) (part : List ℕ) → back part (got l part) ≡ part
back_same (cut n) part =
    ap (take (length part))
    (elim (dec_le n (length part)) [
      | yes h ↦ ap (λ (k : ℕ). take n part ++ drop k part) (length-take-le n part h) ∙ take-append-drop n part
      | no h ↦ (let e = take_all n part (let z : length part ≤ n = omega arith in z) in ap (λ (l : List ℕ). l ++ drop (length l) part) e ∙ (ap (λ (l : List ℕ). l ++ drop (length part) part) (sym (take-length part)) ∙ take-append-drop (length part) part))
    ]) ∙
    take-length part
back_same (whole more) part =
    ap (take (length part)) (append_assoc part more (drop (length (part ++ more)) part)) ∙ take-append_seam part (more ++ drop (length (part ++ more)) part)

-- a part with other words, lent whole
pub back_new : (part new more : List ℕ) → length new ≡ length part → back part (new ++ more) ≡ new
back_new part new more e =
    ap (take (length part)) (append_assoc new more (drop (length (new ++ more)) part)) ∙ take_at new (more ++ drop (length (new ++ more)) part) (length part) e

pub take_back_same : (l : Lending) (b : Board) → take_back b (lend l b) ≡ b
take_back_same l b = λ j. record { head = b.head; part = λ p. back_same (l p) (b.part p) j }

-- ---- boards of the lengths under Layout

abbrev pub Laid : Head → Board → Type 0
Laid h b = (p : Part) → length (b.part p) ≡ places h p

pub take_back_new : (h : Head) (b new : Board) (more : Parts) → Laid h b → Laid h new → take_back b (extend new more) ≡ new
take_back_new h b new more d e = λ j. record { head = new.head; part = λ p. back_new (b.part p) (new.part p) (more p) (e p ∙ sym (d p)) j }

-- lent long enough, a board has some words behind it
pub lend_whole : (h : Head) (l : Lending) (b : Board) → Laid h b → ((p : Part) → places h p ≤ length (got (l p) (b.part p))) → (more : Parts) × (lend l b ≡ extend b more)
lend_whole h l b d long =
    let each : (p : Part) → (more : List ℕ) × (got (l p) (b.part p) ≡ b.part p ++ more) = λ p. got_whole (l p) (b.part p) (omega (arith, long p, d p)) in
    (λ p. (each p).0, λ j. record { head = b.head; part = λ p. (each p).1 j })

-- case 3 by the lengths is case 3 of the lent board
pub parts_short_board : (h : Head) (l : Lending) (b : Board) → Laid h b → ((p : Part) → places b.head p ≡ places h p) → board_short (lend l b) ≡ parts_short h l
unfolding board_short
parts_short_board h l b d e =
    let each : (p : Part) → ltb (length (got (l p) (b.part p))) (places b.head p) ≡ ltb (lent_length (places h p) (l p)) (places h p) = λ p. ap₂ ltb (length_got (l p) (b.part p) ∙ ap (λ (k : ℕ). lent_length k (l p)) (d p)) (e p) in
    λ j. some_part (λ p. each p j) all_parts
