-- `cover_lines::put_members` meets its contract. The invariant: the lines of the first i nodes are written.
use borrow.Author.Rules.{rules}
use mathlib.Core.Path.{◌∙◌}
use mathlib.Core.Bool.{Bool}
use mathlib.Core.List.{List}
use Prim.Native.Nat.{ℕ, suc, ◌+◌, ◌*◌}
use native.Mathlib.Numerals.{add-one}
use native.Mathlib.Omega.{arith}
use lib.Dec.{leb}
use lib.ListN.{get_or}
use Rattle.cover_text.specs.Text.{member_line, member_lines}
use Rattle.cover_text.specs.Write.{Wrote}
use Rattle.cover_text.proofs.Write.{wrote_append, wrote_most}
use Rattle.cover_lines.proofs.put_members.Goals as goal

-- one node more
module _ {l m n : List ℕ} {at p end : ℕ} (name : List ℕ) (inside : ℕ → Bool) (level : ℕ → ℕ) (i : ℕ) where
  more :
      Wrote l at (member_lines name inside level i) (21 * i) m p →
      Wrote m p (member_line name (inside i) i (level i)) 21 n end →
      Wrote l at (member_lines name inside level (i + 1)) (21 * (i + 1)) n end
  unfolding member_lines
  more v w = rw (add-one i) (wrote_most (21 * suc i) (omega arith) (wrote_append v w))

pub loop-i-init : goal.loop-i-init
unfolding member_lines
loop-i-init c = search rules

pub loop-i-preserved : goal.loop-i-preserved
loop-i-preserved c =
    let l = c.loop-i in
    let a = c.args in (
      c.put_member-end.auto.out ∙ l.invariant.0,
      more a.name.now (λ i. leb a.least (get_or a.levels.now i 0)) (λ i. get_or a.levels.now i 0) l.i l.invariant.1 c.put_member-end.ensures,
    )
