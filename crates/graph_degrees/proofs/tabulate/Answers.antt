-- `graph_degrees::tabulate` meets its contract. The loop's invariant: k places are read, and the degree of the last pair's operator is at hand.
use mathlib.Core.Path.{◌≡◌, refl, sym, ◌∙◌}
use mathlib.Core.Bool.{Bool, ◌&&◌}
use mathlib.Core.List.{List}
use lib.Dec.{eqb}
use Rattle.model.specs.declared.Head.{Head}
use Prim.Native.Nat.{ℕ, ◌+◌, ◌-◌, ◌≤◌, ◌<◌}
use native.Mathlib.Omega.{arith}
use lib.ListN.{get_or, take, drop, length-set}
use lib.Seq.{get_or-set_same}
use Rattle.model.specs.Count.{bit}
use Rattle.model.proofs.Count.{bit_le}
use Rattle.model.proofs.Store.{part_at}
use Rattle.pairs.proofs.Order.{accepted_range}
use Rattle.graph_degrees.specs.Degrees.{Bytes}
use Rattle.graph_degrees.proofs.Reading.{tested, read_none, read_next, sums_fit}
use Rattle.graph_degrees.proofs.tabulate.Goals as goal

module _ (h : Head) (here : List ℕ) (on : ℕ → Bool) (bytes : Bytes h on here) (u v : ℕ) (l : u < h.operators) (k : v < h.rides) where
  -- the bytes of the rides, behind those of the operators
  abbrev of_rides : List ℕ
  of_rides = take (h.operators + h.rides - h.operators) (drop h.operators here)

  -- the bytes of both nodes of a pair
  bytes_are : (get_or here u 0 ≡ bit (on u)) × (get_or of_rides v 0 ≡ bit (on (h.operators + v)))
  bytes_are = (bytes.bits u (omega arith), part_at here h.operators h.rides bytes.long v 0 k ∙ bytes.bits (h.operators + v) (omega arith))

  -- the bit that is stored
  one_is : (one : ℕ) → one ≡ bit (eqb (get_or here u 0) 1 && eqb (get_or of_rides v 0) 1) → one ≡ bit (on u && on (h.operators + v))
  one_is one e = e ∙ tested (on u) (on (h.operators + v)) _ _ bytes_are.0 bytes_are.1

pub loop-k-init : goal.loop-k-init
loop-k-init c = let t = c.args.table in
    let z = c.requires.1 in
    (accepted_range t.head t.operators.now t.rides.now t.accepted, z.by_operator_long, z.by_ride_long, refl, λ on b. read_none _ _ _ t.accepted on _ _ z)

pub overflow_add-ride_degrees : goal.overflow_add-ride_degrees
overflow_add-ride_degrees c = let t = c.args.table in
    let one : c.both-one.result ≤ 1 = rw c.both-one.ensures (bit_le _) in
    omega (arith, sums_fit _ _ _ t.accepted c.requires.0.0 c.loop-k.k (omega arith) _ _ _ _ (c.loop-k.invariant.4 _ c.requires.0.1) _ one)

pub overflow_add-degree : goal.overflow_add-degree
overflow_add-degree c = let t = c.args.table in
    let one : c.both-one.result ≤ 1 = rw c.both-one.ensures (bit_le _) in
    omega (arith, c.so_far.ensures, sums_fit _ _ _ t.accepted c.requires.0.0 c.loop-k.k (omega arith) _ _ _ _ (c.loop-k.invariant.4 _ c.requires.0.1) _ one)

pub loop-k-preserved : goal.loop-k-preserved
loop-k-preserved c = let l = c.loop-k in
    let t = c.args.table in
    let r = l.invariant.0 l.k (omega arith) in (
      l.invariant.0,
      simp length-set l.invariant.1,
      simp length-set l.invariant.2,
      sym (get_or-set_same l.operator_degrees _ _ 0 (omega (arith, r, t.accepted.few_operators, (l.invariant.4 _ c.requires.0.1).degrees.operators_long))),
      λ on b. rw c.so_far.ensures (read_next _ _ _ t.accepted on l.k (omega arith) _ _ _ _ (l.invariant.4 on b) _ (one_is t.head c.args.here.now on b _ _ r.0 r.1 _ c.both-one.ensures)),
    )

pub returns : goal.returns
returns c = let l = c.loop-k in
    let e : l.k ≡ c.args.table.head.pairs = omega arith in
    λ on b. rw e at (l.invariant.4 on b)
