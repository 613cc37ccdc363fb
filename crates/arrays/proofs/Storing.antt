-- A loop that stores f 0, f 1, .. : what it leaves up to the place i, and one store more.
use mathlib.Core.Path.{◌≡◌, refl, ◌∙◌}
use mathlib.Core.List.{List}
use Prim.Native.Nat.{ℕ, ◌+◌, ◌≤◌, ◌<◌}
use lib.ListN.{length, get_or, set, drop}
use lib.Seq.{drop-set-lt}
use Rattle.model.proofs.Store.{stored, left_alone}

-- the places below i hold f, those from i on are as they came, and so is all that lies past n
pub record Storing (f : ℕ → ℕ) (n : ℕ) (l₀ l : List ℕ) (i : ℕ) : Type 0 where
  pub done : (k : ℕ) → k < i → get_or l k 0 ≡ f k
  pub ahead : (k : ℕ) → i ≤ k → get_or l k 0 ≡ get_or l₀ k 0
  pub past : drop n l ≡ drop n l₀

module _ (f : ℕ → ℕ) (n : ℕ) (l₀ : List ℕ) where
  pub storing_start : (i : ℕ) → ((k : ℕ) → k < i → get_or l₀ k 0 ≡ f k) → Storing f n l₀ l₀ i
  storing_start i h = record { done = h; ahead = λ k l. refl; past = refl }

  pub storing_more : (l : List ℕ) (i v : ℕ) → Storing f n l₀ l i → i < n → i < length l → v ≡ f i → Storing f n l₀ (set l i v) (i + 1)
  storing_more l i v s h b e =
      record {
        done = stored f l₀ l i v b e s.done;
        ahead = left_alone f l₀ l i v b e s.ahead;
        past = drop-set-lt n l i v h ∙ s.past;
      }
