-- Laws of the lines of a cover: the same members and levels, and the parts that are written one after the other.
use mathlib.Core.Path.{◌≡◌, refl, sym, ap, ap₂, ◌∙◌}
use mathlib.Core.Bool.{Bool}
use mathlib.Core.List.{List, ◌++◌}
use Prim.Native.Nat.{ℕ, zero, suc, ◌+◌, ◌≤◌, ◌<◌}
use native.Mathlib.Nat.{zero-add}
use native.Mathlib.Numerals.{add-one}
use native.Mathlib.Omega.{arith}
use lib.Dec.{leb}
use lib.ListN.{length, get_or, take}
use Rattle.std.specs.List.{count_by}
use Rattle.std.proofs.lemmas.List.{take_all}
use Rattle.std.proofs.lemmas.List.Sums.{count_by_more_yes, count_by_more_no}
use Rattle.model.specs.Count.{bit, count}
use Rattle.model.specs.Graph.{limits, in_by_level}
use Rattle.model.proofs.Count.{by_test, test_true, test_false, count_none, count_more, count_ext}
use Rattle.model.proofs.Cover.{limits_operator, limits_ride}
use Rattle.cover_text.specs.Text.{bytes, first_line, member_line, member_lines, report_text}
use Rattle.index_members.specs.Members.{least_level, level_at}
use Rattle.index_members.proofs.Members.{least_in}

-- those of a list that pass a test, counted by their places
pub count_places : (p : ℕ → Bool) (xs : List ℕ) → count_by p xs ≡ count (length xs) (λ i. p (get_or xs i 0))
count_places p xs = ap (count_by p) (sym (take_all (length xs) xs (omega arith))) ∙ up_to (length xs) (omega arith)
  where
    up_to : (k : ℕ) → k ≤ length xs → count_by p (take k xs) ≡ count k (λ i. p (get_or xs i 0))
    up_to zero h = sym (count_none (λ i. p (get_or xs i 0)))
    up_to (suc k) h =
        ap (λ (j : ℕ). count_by p (take j xs)) (sym (add-one k)) ∙
        by_test (p (get_or xs k 0))
        (λ t. let e = test_true (p (get_or xs k 0)) t in omega (arith, up_to k (omega arith), count_by_more_yes p xs k 0 (omega arith) e, ap bit e, count_more (λ i. p (get_or xs i 0)) k))
        (λ t. let e = test_false (p (get_or xs k 0)) t in omega (arith, up_to k (omega arith), count_by_more_no p xs k 0 (omega arith) e, ap bit e, count_more (λ i. p (get_or xs i 0)) k)) ∙
        ap (λ (j : ℕ). count j (λ i. p (get_or xs i 0))) (add-one k)

module _ (name : List ℕ) (p q : ℕ → Bool) (f g : ℕ → ℕ) where
  pub member_lines_ext : (k : ℕ) → ((i : ℕ) → i < k → p i ≡ q i) → ((i : ℕ) → i < k → f i ≡ g i) → member_lines name p f k ≡ member_lines name q g k
  unfolding member_lines
  member_lines_ext zero h l = refl
  member_lines_ext (suc k) h l =
      ap₂ ◌++◌
      (member_lines_ext k (λ i b. h i (omega arith)) (λ i b. l i (omega arith)))
      (ap₂ (λ (b : Bool) (z : ℕ). member_line name b k z) (h k (omega arith)) (l k (omega arith)))

module _ (α β n m : ℕ) (p q : ℕ → Bool) (f g : ℕ → ℕ) where
  pub report_ext : ((x : ℕ) → x < n + m → p x ≡ q x) → ((x : ℕ) → x < n + m → f x ≡ g x) → report_text α β n m p f ≡ report_text α β n m q g
  unfolding report_text
  report_ext h l =
      ap₂ ◌++◌
      (ap₂ ◌++◌
      (ap₂ (first_line α β) (count_ext p q n (λ u b. h u (omega arith))) (count_ext (λ v. p (n + v)) (λ v. q (n + v)) m (λ v b. h (n + v) (omega arith))))
      (member_lines_ext (bytes "operator ") p q f g n (λ u b. h u (omega arith)) (λ u b. l u (omega arith))))
      (member_lines_ext (bytes "ride ") (λ v. p (n + v)) (λ v. q (n + v)) (λ v. f (n + v)) (λ v. g (n + v)) m (λ v b. h (n + v) (omega arith)) (λ v b. l (n + v) (omega arith)))

-- the text from a row of levels: the parts that are written one after the other, with the least level of an operator and of a ride
module _ (α β n m : ℕ) (levels : List ℕ) where
  -- who is in, by the node's own limit
  abbrev inside : ℕ → Bool
  inside x = in_by_level (limits n α β x) β (level_at levels 0 x)

  -- the levels of the operators, and those of the rides
  module _ (us vs : List ℕ) (few : length us ≡ n) (u_is : (u : ℕ) → u < n → get_or us u 0 ≡ get_or levels u 0) (less : length vs ≡ m) (v_is : (v : ℕ) → v < m → get_or vs v 0 ≡ get_or levels (n + v) 0) where
    abbrev level : ℕ → ℕ
    level x = level_at levels 0 x

    operator_level : (u : ℕ) → u < n → get_or us u 0 ≡ level u
    operator_level u l = u_is u l ∙ ap (λ (x : ℕ). get_or levels x 0) (sym (zero-add u))

    ride_level : (v : ℕ) → v < m → get_or vs v 0 ≡ level (n + v)
    ride_level v l = v_is v l ∙ ap (λ (x : ℕ). get_or levels x 0) (sym (zero-add (n + v)))

    operator : (u : ℕ) → u < n → leb (least_level α β) (get_or us u 0) ≡ inside u
    operator u l =
        least_in α β (get_or us u 0) ∙ ap₂ (λ (z y : ℕ). in_by_level z β y) (sym (limits_operator n α β u l)) (operator_level u l)

    ride : (v : ℕ) → v < m → leb (least_level β β) (get_or vs v 0) ≡ inside (n + v)
    ride v l =
        least_in β β (get_or vs v 0) ∙ ap₂ (λ (z y : ℕ). in_by_level z β y) (sym (limits_ride n α β (n + v) (omega arith))) (ride_level v l)

    pub row_text :
        first_line α β (count (length us) (λ u. leb (least_level α β) (get_or us u 0))) (count (length vs) (λ v. leb (least_level β β) (get_or vs v 0))) ++
        member_lines (bytes "operator ") (λ u. leb (least_level α β) (get_or us u 0)) (λ u. get_or us u 0) (length us) ++
        member_lines (bytes "ride ") (λ v. leb (least_level β β) (get_or vs v 0)) (λ v. get_or vs v 0) (length vs) ≡
        report_text α β n m inside (level_at levels 0)
    unfolding report_text
    row_text =
        rw (few, less)
        (ap₂ ◌++◌
        (ap₂ ◌++◌
        (ap₂ (first_line α β) (count_ext (λ u. leb (least_level α β) (get_or us u 0)) inside n operator) (count_ext (λ v. leb (least_level β β) (get_or vs v 0)) (λ v. inside (n + v)) m ride))
        (member_lines_ext (bytes "operator ") (λ u. leb (least_level α β) (get_or us u 0)) inside (λ u. get_or us u 0) level n operator operator_level))
        (member_lines_ext (bytes "ride ") (λ v. leb (least_level β β) (get_or vs v 0)) (λ v. inside (n + v)) (λ v. get_or vs v 0) (λ v. level (n + v)) m ride ride_level))
