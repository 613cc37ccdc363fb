-- The limits of operators and of rides, each found in their part of the list, as the limits of a peel.
use mathlib.Core.Bool.{Bool, true, false}
use mathlib.Core.Path.{◌≡◌, sym, ap, ◌∙◌, subst}
use mathlib.Core.List.{List, ◌++◌}
use Prim.Native.Nat.{ℕ, suc, ◌+◌, ◌-◌, ◌≤◌, ◌<◌}
use native.Mathlib.Omega.{arith}
use native.Mathlib.Decide.{dec_lt}
use lib.Dec.{eqb}
use lib.ListN.{length, take, drop, length-append}
use lib.Seq.{get_or-take}
use Rattle.model.specs.Graph.{present, raised, ride_limit, own_limits}
use Rattle.model.proofs.Cover.{own_operator, own_ride}
use Rattle.model.proofs.Store.{part_at, put_before, put_at, front_at}
use Rattle.limits.specs.Limits.{limit_of}

-- the limits of one side raised for who is off or out
side : (n : ℕ) (here : ℕ → Bool) (limit : ℕ → ℕ) (x own high : ℕ) → own ≡ limit x → high ≡ suc n → elim (here x) [ true ↦ own | false ↦ high ] ≡ raised n here limit x
unfolding raised
side n here limit x own high e f = λ i. elim (here x) [ true ↦ e i | false ↦ f i ]

module _ (n m α β : ℕ) (presence minimums l ys zs ts : List ℕ) (fits : n ≤ length l) (long : n + m ≤ length presence) (front : length ys ≡ n) (rest : length zs ≡ m) (first : (u : ℕ) → u < n → limit_of ys u ≡ elim (present (take n presence) u) [ true ↦ α | false ↦ n + m + 1 ]) (second : (v : ℕ) → v < m → limit_of zs v ≡ elim (present (take (n + m - n) (drop n presence)) v) [ true ↦ ride_limit (take m minimums) β v | false ↦ n + m + 1 ]) where
  inside : n ≤ length (ys ++ drop n l)
  inside = omega (arith, length-append ys (drop n l))

  high : n + m + 1 ≡ suc (n + m)
  high = omega arith

  of_operator : (x : ℕ) → x < n → limit_of (take n (ys ++ drop n l) ++ (zs ++ ts)) x ≡ raised (n + m) (present presence) (own_limits n minimums α β) x
  of_operator x k =
      put_before (ys ++ drop n l) zs ts n inside x 0 k ∙ front_at l ys n front x 0 k ∙ first x k ∙
      ap (λ (w : ℕ). elim (eqb w 1) [ true ↦ α | false ↦ n + m + 1 ]) (get_or-take n presence x 0 k) ∙
      side (n + m) (present presence) (own_limits n minimums α β) x α (n + m + 1) (sym (own_operator n minimums α β x k)) high

  of_ride : (v : ℕ) → v < m → limit_of (take n (ys ++ drop n l) ++ (zs ++ ts)) (n + v) ≡ raised (n + m) (present presence) (own_limits n minimums α β) (n + v)
  of_ride v k =
      let own : ride_limit (take m minimums) β v ≡ ride_limit minimums β (n + v - n) =
      ap (λ (w : ℕ). elim (eqb w 0) [ true ↦ β | false ↦ w ]) (get_or-take m minimums v 0 k) ∙ ap (ride_limit minimums β) (omega arith) in
      put_at (ys ++ drop n l) zs ts n inside v 0 (omega arith) ∙ second v k ∙
      ap (λ (w : ℕ). elim (eqb w 1) [ true ↦ ride_limit (take m minimums) β v | false ↦ n + m + 1 ]) (part_at presence n m long v 0 k) ∙
      side (n + m) (present presence) (own_limits n minimums α β) (n + v) (ride_limit (take m minimums) β v) (n + m + 1) (own ∙ sym (own_ride n minimums α β (n + v) (omega arith))) high

  -- limits whose operators' part and rides' part are those of their sides
  pub both_sides : (x : ℕ) → x < n + m → limit_of (take n (ys ++ drop n l) ++ (zs ++ ts)) x ≡ raised (n + m) (present presence) (own_limits n minimums α β) x
  both_sides x h =
      elim (dec_lt x n) [
        | yes k ↦ of_operator x k
        | no k ↦
            (let e : n + (x - n) ≡ x = omega arith in
            subst (λ (y : ℕ). limit_of (take n (ys ++ drop n l) ++ (zs ++ ts)) y ≡ raised (n + m) (present presence) (own_limits n minimums α β) y) e (of_ride (x - n) (omega arith)))
      ]
