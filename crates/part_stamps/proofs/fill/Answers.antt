-- `part_stamps::fill` meets its contract: the stamps are zeroed, and those of the listed pairs set.
use mathlib.Core.List.{List}
use mathlib.Core.Path.{ap, ◌∙◌}
use Prim.Native.Nat.{ℕ}
use native.Mathlib.Omega.{arith}
use lib.ListN.{get_or, drop}
use Rattle.model.specs.Layout.{pair_places}
use Rattle.arrays.proofs.Filled.{filled_at, filled_rest}
use Rattle.part_stamps.proofs.Stamps.{stamps_filled}
use Rattle.part_stamps.proofs.fill.Goals as goal

pub stamp_pairs-requires : goal.stamp_pairs-requires
stamp_pairs-requires c = let a = c.args in
    record { places = omega arith; by_index = λ k l. ap (λ (x : List ℕ). get_or x k 0) c.fill.ensures ∙ filled_at a.stamps.now 0 0 (pair_places a.table.head) (omega arith) c.requires k (omega arith) l }

pub returns : goal.returns
returns c = let a = c.args in
    stamps_filled a.table.head a.table.operators.now a.table.rides.now a.start a.stamps.now _ _ c.requires (omega arith) (ap (drop (pair_places a.table.head)) c.fill.ensures ∙ filled_rest a.stamps.now 0 0 (pair_places a.table.head) (omega arith) c.requires) c.stamp_pairs.ensures
