-- 6 and 10: the tests of a board's stamps, and of a message against its pair's last.
use mathlib.Core.Path.{◌≡◌, refl, sym, ap, subst}
use mathlib.Core.Logic.{◌≢◌}
use mathlib.Core.Bool.{Bool, true, false, ◌&&◌, ◌||◌, not}
use Prim.Native.Nat.{ℕ, ◌≤◌, ◌<◌}
use lib.Dec.{T, ltb, eqb, eqb→eq}
use borrow.Author.Tests.{eq-eqb}
use lib.ListN.{get_or}
use Rattle.model.specs.declared.Message.{Message}
use Rattle.model.specs.Count.{bit}
use Rattle.model.specs.Layout.{Operators, Rides, Stamps, Board}
use Rattle.model.specs.Contents.{Slot, Pair, gives, later, entry, contents, pair_place}
use Rattle.model.specs.Refusal.{refused_6, refused_10}
use Rattle.model.proofs.Count.{test_true, test_false}
use Rattle.model.proofs.Search.{passes, some_true, some_false}
use Rattle.model.proofs.Refusal.{slot_pair}

-- ---- 6

module _ (b : Board) where
  -- the stamp of the pair at place i
  abbrev stamp_at : ℕ → ℕ
  stamp_at i = get_or (b.part Stamps) (pair_place b.head (get_or (b.part Operators) i 0) (get_or (b.part Rides) i 0)) 0

  pub one_unstamped : (i : ℕ) → i < b.head.pairs → stamp_at i ≡ 0 → true ≡ refused_6 b
  unfolding refused_6
  one_unstamped i l e = some_true (λ k. eqb (stamp_at k) 0) b.head.pairs i l (passes _ _ (sym (eq-eqb (stamp_at i) 0 e)) refl)

  pub all_stamped : ((i : ℕ) → i < b.head.pairs → stamp_at i ≢ 0) → false ≡ refused_6 b
  unfolding refused_6
  all_stamped f = some_false (λ k. eqb (stamp_at k) 0) b.head.pairs (λ i l t. f i l (eqb→eq (stamp_at i) 0 t))

-- ---- 10

-- whether a last entry gives matters in a tie alone, where it makes the message later
later_either : (a b c d g : Bool) → T (a || (b && (c || (d && (g && false))))) → T (a || (b && (c || (d && (g && true)))))
later_either true b c d g t = tt
later_either false true true d g t = tt
later_either false true false true true t = absurd t
later_either false true false true false t = absurd t
later_either false true false false g t = absurd t
later_either false false c d g t = absurd t

module _ (m : Message) (stamp revision : ℕ) where
  -- whether a message is later than an entry that gives or takes away
  abbrev later_than : Bool → Bool
  later_than t = later (entry m) (record { stamp = stamp; revision = revision; word = bit t })

  later_more : T (later_than false) → T (later_than true)
  later_more = later_either (ltb stamp m.stamp) (eqb m.stamp stamp) (ltb revision m.revision) (eqb m.revision revision) (not (gives (entry m)))

  pub never_later : later_than true ≡ false → (t : Bool) → later_than t ≡ false
  never_later e true = e
  never_later e false = test_false (later_than false) (λ h. subst T e (later_more h))

  pub ever_later : later_than false ≡ true → (t : Bool) → later_than t ≡ true
  ever_later e true = test_true (later_than true) (later_more (subst T (sym e) tt))
  ever_later e false = e

  pub later_if : later_than true ≡ true → later_than false ≡ false → (t : Bool) → later_than t ≡ t
  later_if e d true = e
  later_if e d false = d

-- 10 of a message for a pair
pub pair_refused : (b : Board) (m : Message) → m.kind ≤ 2 → not (later (entry m) (contents b (Pair m.operator m.ride))) ≡ refused_10 b m
unfolding refused_10
pair_refused b m k = ap (λ (t : Slot). not (later (entry m) (contents b t))) (sym (slot_pair m k))
