-- `index_fill::fill_rows` meets its contract. The loop's invariant: the first a rows are stored, and differ counts their words that differ.
use lib.ListN.{take}
use mathlib.Core.Path.{ap₂}
use Rattle.model.proofs.Count.{length_values}
use Rattle.index_fill.proofs.Stored.{index_done, differ_done, index_small}
use Rattle.model.proofs.Differ.{differing_none, differing_le}
use Rattle.graph_tables.proofs.Place.{row_inside}
use Rattle.index_fill.proofs.Index.{row_values}
use borrow.Rule.Slice.PartMut.{same_len_mid}
use Prim.Native.Nat.{ℕ, suc, ◌+◌, ◌*◌, ◌<◌, ◌≤◌, ◌-◌}
use mathlib.Core.Path.{◌≡◌, refl, sym, ap, ◌∙◌, subst}
use native.Mathlib.Omega.{arith}
use lib.ListN.{length, drop}
use Rattle.model.specs.Count.{rows}
use Rattle.model.specs.Graph.{level}
use Rattle.model.specs.Layout.{differing}
use Rattle.graph_tables.specs.Table.{table_graph}
use Rattle.index_fill.proofs.Stored.{stored_row, differing_row, no_rows}
use Rattle.index_fill.proofs.fill_rows.Goals as goal

-- row a lies inside the index
inside : (m a w long k : ℕ) → a < m → w ≡ k → m * k ≤ long → a * w + w ≤ long
inside m a w long k l e h = row_inside m w a w l (omega arith) long (subst (λ (z : ℕ). m * z ≤ long) (sym e) h)

pub loop-a-init : goal.loop-a-init
loop-a-init c = let a = c.args in
    (refl, refl, no_rows (length a.row.now) (λ (b x : ℕ). level (table_graph a.source.tables.operators a.source.tables.rides a.source.tables.by_operator.now) (suc b) x) a.index.now, sym (ap (λ (k : ℕ). differing k a.index.now (rows a.source.tables.rides (length a.row.now) (λ (b x : ℕ). level (table_graph a.source.tables.operators a.source.tables.rides a.source.tables.by_operator.now) (suc b) x))) (let e : 0 * length a.row.now ≡ 0 = omega arith in e) ∙ differing_none a.index.now (rows a.source.tables.rides (length a.row.now) (λ (b x : ℕ). level (table_graph a.source.tables.operators a.source.tables.rides a.source.tables.by_operator.now) (suc b) x))))

pub overflow_add-differ : goal.overflow_add-differ
overflow_add-differ c = let a = c.args in
    let l = c.loop-a in
    let w = length a.row.now in
    let v = c.store-differ.ensures in
    let row = c.any_row.new.row in
    let r = (row_values (table_graph a.source.tables.operators a.source.tables.rides a.source.tables.by_operator.now) l.a w c.requires.sizes.0 row c.any_row.ensures) in
    let long = ap length r ∙ length_values (λ (x : ℕ). level (table_graph a.source.tables.operators a.source.tables.rides a.source.tables.by_operator.now) (suc l.a) x) w in
    let d = ap₂ ◌+◌ l.invariant.3 (v.1 ∙ ap (λ (k : ℕ). differing k (take (l.a * w + w - l.a * w) (drop (l.a * w) l.index)) row) long) ∙ differing_row w a.source.tables.rides (λ (b x : ℕ). level (table_graph a.source.tables.operators a.source.tables.rides a.source.tables.by_operator.now) (suc b) x) a.index.now l.a (omega arith) l.index l.invariant.2 row r in
    omega (arith, d, differing_le a.index.now (rows a.source.tables.rides w (λ (b x : ℕ). level (table_graph a.source.tables.operators a.source.tables.rides a.source.tables.by_operator.now) (suc b) x)) ((l.a + 1) * w), row_inside a.source.tables.rides w l.a w (omega arith) (omega arith) (a.source.tables.rides * w) (omega arith), index_small a.source.tables.rides w c.args.source.tabulated.tables.by_operator.wide (omega (arith, c.requires.sizes.0, c.args.source.tabulated.tables.by_ride.wide, c.args.source.tabulated.tables.by_operator.wide)))

pub loop-a-preserved : goal.loop-a-preserved
loop-a-preserved c = let a = c.args in
    let l = c.loop-a in
    let w = length a.row.now in
    let v = c.store-differ.ensures in
    let row = c.any_row.new.row in
    let r = (row_values (table_graph a.source.tables.operators a.source.tables.rides a.source.tables.by_operator.now) l.a w c.requires.sizes.0 row c.any_row.ensures) in
    let long = ap length r ∙ length_values (λ (x : ℕ). level (table_graph a.source.tables.operators a.source.tables.rides a.source.tables.by_operator.now) (suc l.a) x) w in
    let d = ap₂ ◌+◌ l.invariant.3 (v.1 ∙ ap (λ (k : ℕ). differing k (take (l.a * w + w - l.a * w) (drop (l.a * w) l.index)) row) long) ∙ differing_row w a.source.tables.rides (λ (b x : ℕ). level (table_graph a.source.tables.operators a.source.tables.rides a.source.tables.by_operator.now) (suc b) x) a.index.now l.a (omega arith) l.index l.invariant.2 row r in (
      omega (arith, l.invariant.0),
      same_len_mid (l.a * w) (l.a * w + w - l.a * w) l.index c.store-differ.new.part (omega arith) ∙ l.invariant.1,
      stored_row w a.source.tables.rides (λ (b x : ℕ). level (table_graph a.source.tables.operators a.source.tables.rides a.source.tables.by_operator.now) (suc b) x) a.index.now l.a (omega arith) l.index l.invariant.2 _ (v.0 ∙ r),
      d,
    )

pub returns : goal.returns
returns c = let a = c.args in
    let l = c.loop-a in
    let w = length a.row.now in
    let g = table_graph a.source.tables.operators a.source.tables.rides a.source.tables.by_operator.now in
    (index_done g w l.a c.requires.sizes.0 (omega arith) a.index.now l.index l.invariant.2, differ_done g w l.a c.requires.sizes.0 (omega arith) a.index.now l.differ l.invariant.3)
