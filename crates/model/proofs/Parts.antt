-- Laws of parts: what holds of each part holds of all, and what is tested of all parts is tested of each.
use mathlib.Core.Path.{◌≡◌, refl, subst}
use mathlib.Core.Logic.{inl, inr}
use mathlib.Core.Bool.{Bool, false}
use mathlib.Core.List.Memᴰ
use mathlib.Core.List.{List, [], ◌∷◌, Memᴰ}
use Prim.Native.Nat.{◌≤◌, ◌<◌}
use lib.Dec.{T}
use lib.ListN.{length}
use Rattle.model.specs.Layout.{Part, Operators, Rides, Stamps, Revisions, Index, PresenceStamps, PresenceRevisions, Presence, Board, places, all_parts, some_part}
use Rattle.model.specs.Refusal.{refused_3, board_short}
use Rattle.model.proofs.Count.{or_left, or_right, or_cases}
use Rattle.model.proofs.Chain.{enough, not_less, lt_less}

-- one argument for each part
pub by_part {ℓ} : (P : Part → Type ℓ) → P Operators → P Rides → P Stamps → P Revisions → P Index → P PresenceStamps → P PresenceRevisions → P Presence → (p : Part) → P p
by_part P o r s v i t c w Operators = o
by_part P o r s v i t c w Rides = r
by_part P o r s v i t c w Stamps = s
by_part P o r s v i t c w Revisions = v
by_part P o r s v i t c w Index = i
by_part P o r s v i t c w PresenceStamps = t
by_part P o r s v i t c w PresenceRevisions = c
by_part P o r s v i t c w Presence = w

-- each part is one of all
part_in : (p : Part) → Memᴰ p all_parts
part_in =
    by_part (λ p. Memᴰ p all_parts)
    (Memᴰ.head refl)
    (Memᴰ.tail (Memᴰ.head refl))
    (Memᴰ.tail (Memᴰ.tail (Memᴰ.head refl)))
    (Memᴰ.tail (Memᴰ.tail (Memᴰ.tail (Memᴰ.head refl))))
    (Memᴰ.tail (Memᴰ.tail (Memᴰ.tail (Memᴰ.tail (Memᴰ.head refl)))))
    (Memᴰ.tail (Memᴰ.tail (Memᴰ.tail (Memᴰ.tail (Memᴰ.tail (Memᴰ.head refl))))))
    (Memᴰ.tail (Memᴰ.tail (Memᴰ.tail (Memᴰ.tail (Memᴰ.tail (Memᴰ.tail (Memᴰ.head refl)))))))
    (Memᴰ.tail (Memᴰ.tail (Memᴰ.tail (Memᴰ.tail (Memᴰ.tail (Memᴰ.tail (Memᴰ.tail (Memᴰ.head refl))))))))

module _ (f : Part → Bool) where
  -- no part passes the test where none of the list does
  pub no_part : ((p : Part) → T (f p) → ⊥) → (ps : List Part) → T (some_part f ps) → ⊥
  no_part n [] t = t
  no_part n (p ∷ ps) t = or_cases (f p) (some_part f ps) t (n p) (no_part n ps)

  -- one of the list passes where a part of it does
  some_in : (ps : List Part) (p : Part) → Memᴰ p ps → T (f p) → T (some_part f ps)
  some_in [] p m t = absurd (Memᴰ.not-nil m)
  some_in (q ∷ ps) p m t =
      elim (Memᴰ.cases_cons m) [
        | inl e ↦ or_left (f q) (some_part f ps) (subst (λ (x : Part). T (f x)) e t)
        | inr k ↦ or_right (f q) (some_part f ps) (some_in ps p k t)
      ]

  pub one_part : (p : Part) → T (f p) → T (some_part f all_parts)
  one_part p t = some_in all_parts p (part_in p) t

module _ (b : Board) where
  -- 3 by the length of one part
  pub short_part : (p : Part) → length (b.part p) < places b.head p → T (board_short b)
  unfolding board_short
  short_part p l = one_part (λ q. refused_3 (places b.head q) (b.part q)) p (lt_less (length (b.part p)) (places b.head p) l)

  -- where 3 does not apply each part is long enough, and the other way round
  pub board_long : (T (board_short b) → ⊥) → (p : Part) → places b.head p ≤ length (b.part p)
  unfolding board_short
  board_long n p = enough (length (b.part p)) (places b.head p) (λ t. n (one_part (λ q. refused_3 (places b.head q) (b.part q)) p t))

  pub not_short : board_short b ≡ false → (p : Part) → places b.head p ≤ length (b.part p)
  not_short e = board_long (λ t. subst T e t)

  pub long_board : ((p : Part) → places b.head p ≤ length (b.part p)) → T (board_short b) → ⊥
  unfolding board_short
  long_board l = no_part (λ p. refused_3 (places b.head p) (b.part p)) (λ p. not_less (length (b.part p)) (places b.head p) (l p)) all_parts
