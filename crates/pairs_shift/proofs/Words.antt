-- One array: a word inserted, a word removed; the first words new and the tail zeroed.
use mathlib.Core.Path.{◌≡◌, sym, ap, ap₂, ◌∙◌}
use mathlib.Core.Bool.{true, false}
use mathlib.Core.List.{List, ◌++◌}
use Prim.Native.Nat.{ℕ, ◌+◌, ◌-◌, ◌≤◌, ◌<◌}
use native.Mathlib.Omega.{arith}
use lib.Dec.{ltb, eqb}
use borrow.Author.Tests.{lt-ltb, le-ltb, eq-eqb, ne_eqb}
use lib.ListN.{length, get_or, take, drop, replicate, length-append, length-replicate}
use lib.Seq.{drop-drop}
use Rattle.model.specs.Layout.{over}
use Rattle.model.specs.Contents.{padded}

-- ---- insert

-- the word at k after one is inserted
unfoldable pub inserted_at : List ℕ → ℕ → ℕ → ℕ → ℕ
inserted_at l place word k =
    elim (ltb k place) [ true ↦ get_or l k 0 | false ↦ elim (eqb k place) [ true ↦ word | false ↦ get_or l (k - 1) 0 ] ]

module _ (l : List ℕ) (place word k : ℕ) where
  pub inserted_below : k < place → inserted_at l place word k ≡ get_or l k 0
  unfolding inserted_at
  inserted_below h = rw (lt-ltb k place h, inserted_at)

  pub inserted_here : k ≡ place → inserted_at l place word k ≡ word
  unfolding inserted_at
  inserted_here e = rw (le-ltb k place (omega arith), eq-eqb k place e, inserted_at)

  pub inserted_above : place < k → inserted_at l place word k ≡ get_or l (k - 1) 0
  unfolding inserted_at
  inserted_above h = rw (le-ltb k place (omega arith), ne_eqb k place (omega arith), inserted_at)

-- ---- remove

-- the word at k after one is removed
unfoldable pub removed_at : List ℕ → ℕ → ℕ → ℕ
removed_at l place k = elim (ltb k place) [ true ↦ get_or l k 0 | false ↦ get_or l (k + 1) 0 ]

module _ (l : List ℕ) (place k : ℕ) where
  pub removed_below : k < place → removed_at l place k ≡ get_or l k 0
  unfolding removed_at
  removed_below h = rw (lt-ltb k place h, removed_at)

  pub removed_above : place ≤ k → removed_at l place k ≡ get_or l (k + 1) 0
  unfolding removed_at
  removed_above h = rw (le-ltb k place h, removed_at)

-- ---- an array with its first words new and its tail zeroed

-- past a place, two arrays that are the same from a lower place on
pub drop_more : (l l' : List ℕ) (n m : ℕ) → n ≤ m → drop n l ≡ drop n l' → drop m l ≡ drop m l'
drop_more l l' n m h e =
    let q : n + (m - n) ≡ m = omega arith in
    ap (λ (k : ℕ). drop k l) (sym q) ∙ sym (drop-drop (m - n) n l) ∙ ap (drop (m - n)) e ∙ drop-drop (m - n) n l' ∙ ap (λ (k : ℕ). drop k l') q

pub padded_done : (words old mid new : List ℕ) (n places : ℕ) → take n mid ≡ words → n ≡ length words → n ≤ places → drop places mid ≡ drop places old → new ≡ over (take n mid ++ replicate (places - n) 0) mid → new ≡ over (padded places words) old
padded_done words old mid new n places t c b d e =
    let front : List ℕ = padded places words in
    let f : take n mid ++ replicate (places - n) 0 ≡ front = ap₂ (λ (x : List ℕ) (k : ℕ). x ++ replicate (places - k) 0) t c in
    let long : length front ≡ places = omega (arith, length-append words (replicate (places - length words) 0), length-replicate {A = ℕ} (places - length words) 0) in
    e ∙
    ap (λ (x : List ℕ). over x mid) f ∙
    ap (λ (k : ℕ). front ++ drop k mid) long ∙
    ap (λ (x : List ℕ). front ++ x) d ∙
    ap (λ (k : ℕ). front ++ drop k old) (sym long)
