-- The least level with which a node is in: whoever has it is in, and nobody else.
use mathlib.Core.Path.{◌≡◌}
use Prim.Native.Nat.{ℕ, zero, suc}
use native.Mathlib.Omega.{arith}
use lib.Dec.{leb}
use borrow.Author.Tests.{le-leb, ne_eqb}
use Rattle.model.specs.Graph.{in_by_level}
use Rattle.index_members.specs.Members.{least_level}

pub least_in : (limit β level : ℕ) → leb (least_level limit β) level ≡ in_by_level limit β level
least_in zero β level = le-leb 0 level (omega arith)
least_in (suc limit) β level = rw (ne_eqb (suc limit) 0 (λ e. omega arith))
