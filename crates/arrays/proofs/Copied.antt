-- Items copied one by one: the first i of an array, and with the next one the first i + 1.
use mathlib.Core.Path.{◌≡◌, sym, ap, ap₂, ◌∙◌}
use mathlib.Core.List.{List, [], ◌∷◌, ◌++◌}
use Prim.Native.Nat.{ℕ, suc, ◌+◌, ◌<◌}
use native.Mathlib.Numerals.{add-one}
use native.Mathlib.Omega.{arith}
use lib.ListN.{length, get_or, set, take, drop}
use lib.Seq.{length-take-le, drop-cons, append_snoc, set_at}
use Rattle.std.proofs.lemmas.List.{take_more}

pub item_copied : {A : Type 0} → (s d : List A) (i : ℕ) (v : A) → i < length s → i < length d → v ≡ get_or s i v → set (take i s ++ drop i d) i v ≡ take (i + 1) s ++ drop (i + 1) d
item_copied {A} s d i v h l e =
    ap (λ (x : List A). set (take i s ++ x) i v) (drop-cons d i v l) ∙
    set_at (take i s) (get_or d i v) (drop (suc i) d) v i (length-take-le i s (omega arith)) ∙
    sym (append_snoc (take i s) v (drop (suc i) d)) ∙
    ap₂ (λ (x : List A) (n : ℕ). x ++ drop n d) (ap (λ (x : A). take i s ++ (x ∷ [])) e ∙ sym (take_more s i v h)) (sym (add-one i))
