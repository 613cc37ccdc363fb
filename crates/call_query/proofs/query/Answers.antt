-- `call_query::query` meets its contract: it refuses, or the index has no such row and the levels are 0, or one row of the index is read.
use mathlib.Core.Path.{◌≡◌, sym, ◌∙◌}
use Prim.Native.Nat.{ℕ}
use native.Mathlib.Omega.{arith}
use lib.ListN.{length-replicate}
use Rattle.model.specs.Layout.{mark_places}
use Rattle.model.specs.Refusal.{query_refusal}
use Rattle.call_query.proofs.Queries.{query_refused, query_long, query_done, row_end, row_start, row_wide, row_levels, zeros_levels}
use Rattle.call_query.proofs.query.Goals as goal

pub returns-then-number-ne0 : goal.returns-then-number-ne0
returns-then-number-ne0 c = let a = c.args in
    query_refused a.head a.index.now a.presence.now a.marks.now a.alpha a.beta _ c.query_number-number.ensures (omega arith)

pub mark_zeros-requires : goal.mark_zeros-requires
mark_zeros-requires c = let a = c.args in
    omega (arith, query_long a.head a.index.now a.presence.now a.marks.now (sym c.query_number-number.ensures ∙ omega arith))

pub returns-then-head-row : goal.returns-then-head-row
returns-then-head-row c = let a = c.args in
    let none : query_refusal a.head a.index.now a.presence.now a.marks.now ≡ 0 = sym c.query_number-number.ensures ∙ omega arith in
    query_done a.head a.index.now a.presence.now a.marks.now a.alpha a.beta none _ (length-replicate {A = ℕ} (mark_places a.head) 0) (zeros_levels a.head a.index.now a.presence.now a.marks.now a.alpha none (omega (arith, c.row-row.ensures))) _ _ c.least-operator_least.ensures c.least-ride_least.ensures _ _ c.mark_zeros.ensures (omega arith)

pub overflow_mul-at : goal.overflow_mul-at
overflow_mul-at c = let a = c.args in
    let none : query_refusal a.head a.index.now a.presence.now a.marks.now ≡ 0 = sym c.query_number-number.ensures ∙ omega arith in
    omega (arith, row_start a.head a.index.now a.presence.now a.marks.now a.alpha none _ c.row-row.ensures (omega arith))

pub overflow_add-at : goal.overflow_add-at
overflow_add-at c = let a = c.args in
    let none : query_refusal a.head a.index.now a.presence.now a.marks.now ≡ 0 = sym c.query_number-number.ensures ∙ omega arith in
    omega (arith, row_start a.head a.index.now a.presence.now a.marks.now a.alpha none _ c.row-row.ensures (omega arith))

pub offset_bounds-index-at : goal.offset_bounds-index-at
offset_bounds-index-at c = let a = c.args in
    let none : query_refusal a.head a.index.now a.presence.now a.marks.now ≡ 0 = sym c.query_number-number.ensures ∙ omega arith in
    omega (arith, row_start a.head a.index.now a.presence.now a.marks.now a.alpha none _ c.row-row.ensures (omega arith))

pub slice_bounds-mark_row-end : goal.slice_bounds-mark_row-end
slice_bounds-mark_row-end c = let a = c.args in
    row_end a.head a.index.now a.presence.now a.marks.now a.alpha (sym c.query_number-number.ensures ∙ omega arith) _ c.row-row.ensures (omega arith)

pub mark_row-requires : goal.mark_row-requires
mark_row-requires c = let a = c.args in
    omega (arith, row_wide a.head a.index.now a.presence.now a.marks.now a.alpha (sym c.query_number-number.ensures ∙ omega arith) _ c.row-row.ensures (omega arith), query_long a.head a.index.now a.presence.now a.marks.now (sym c.query_number-number.ensures ∙ omega arith))

pub returns : goal.returns
returns c = let a = c.args in
    let none : query_refusal a.head a.index.now a.presence.now a.marks.now ≡ 0 = sym c.query_number-number.ensures ∙ omega arith in
    query_done a.head a.index.now a.presence.now a.marks.now a.alpha a.beta none _ (row_wide a.head a.index.now a.presence.now a.marks.now a.alpha none _ c.row-row.ensures (omega arith)) (row_levels a.head a.index.now a.presence.now a.marks.now a.alpha none _ c.row-row.ensures (omega arith)) _ _ c.least-operator_least.ensures c.least-ride_least.ensures _ _ c.mark_row.ensures (omega arith)
