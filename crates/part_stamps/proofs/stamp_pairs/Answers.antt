-- `part_stamps::stamp_pairs` meets its contract. The loop's invariant: the stamps are those of the first k pairs.
use Prim.Native.Nat.{◌+◌, ◌*◌}
use mathlib.Core.Path.{refl, sym, ap, ◌∙◌}
use native.Mathlib.Omega.{arith}
use lib.ListN.{length-set}
use lib.Seq.{drop-set-lt}
use Rattle.model.specs.Layout.{pair_places}
use Rattle.pairs.proofs.Order.{accepted_range}
use Rattle.graph_tables.proofs.Place.{place_lt, table_more, listed_none}
use Rattle.part_stamps.specs.Stamps.{stamp_of}
use Rattle.part_stamps.proofs.stamp_pairs.Goals as goal

pub loop-k-init : goal.loop-k-init
loop-k-init c = let a = c.args in
    let h = a.table.head in (
      accepted_range h a.table.operators.now a.table.rides.now a.table.accepted,
      refl,
      λ i j k l. c.requires.by_index (i * h.rides + j) (place_lt h.operators h.rides i j k l (pair_places h) (omega arith)) ∙ sym (ap (stamp_of a.start) (listed_none a.table.operators.now a.table.rides.now i j)),
      refl,
    )

pub loop-k-preserved : goal.loop-k-preserved
loop-k-preserved c = let a = c.args in
    let h = a.table.head in
    let l = c.loop-k in
    let r = l.invariant.0 l.k (omega arith) in (
      l.invariant.0,
      simp length-set (omega arith),
      rw c.place-at.ensures (table_more (stamp_of a.start) a.table.operators.now a.table.rides.now h.operators h.rides l.k l.stamps (omega (arith, c.requires.places)) r.0 r.1 l.invariant.2),
      drop-set-lt (pair_places h) l.stamps c.place-at.result a.start (omega (arith, c.place-at.ensures, place_lt h.operators h.rides _ _ r.0 r.1 (pair_places h) (omega arith))) ∙ l.invariant.3,
    )
