-- Laws of the number of words that differ.
use mathlib.Core.Path.{◌≡◌, refl}
use mathlib.Core.Bool.{not}
use mathlib.Core.List.{List}
use Prim.Native.Nat.{ℕ, ◌+◌, ◌≤◌}
use lib.Dec.{eqb}
use lib.ListN.{get_or}
use Rattle.model.specs.Count.{bit, count}
use Rattle.model.specs.Layout.{differing}
use Rattle.model.proofs.Count.{count_le, count_more, count_append}

module _ (old new : List ℕ) where
  pub differing_none : differing 0 old new ≡ 0
  unfolding differing count
  differing_none = refl

  pub differing_more : (k : ℕ) → differing (k + 1) old new ≡ differing k old new + bit (not (eqb (get_or old k 0) (get_or new k 0)))
  unfolding differing
  differing_more k = count_more (λ i. not (eqb (get_or old i 0) (get_or new i 0))) k

  pub differing_le : (k : ℕ) → differing k old new ≤ k
  unfolding differing
  differing_le k = count_le (λ i. not (eqb (get_or old i 0) (get_or new i 0))) k

  -- the words of a first part, and of the part behind it
  pub differing_append : (k j : ℕ) → differing (k + j) old new ≡ differing k old new + count j (λ i. not (eqb (get_or old (k + i) 0) (get_or new (k + i) 0)))
  unfolding differing
  differing_append k j = count_append (λ i. not (eqb (get_or old i 0) (get_or new i 0))) k j
