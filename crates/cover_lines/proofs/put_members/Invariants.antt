-- `cover_lines::put_members` meets its contract. The invariant: the lines of the first i nodes are written.
use mathlib.Core.Path.{◌≡◌}
use Prim.Native.Nat.{◌*◌}
use lib.Dec.{leb}
use lib.ListN.{length, get_or}
use Rattle.cover_text.specs.Text.{member_lines}
use Rattle.cover_text.specs.Write.{Wrote}
use Rattle.cover_lines.proofs.put_members.Given as goal

abbrev pub invariant-loop-i : goal.invariant-loop-i
invariant-loop-i l = (length l.out ≡ length l.initial.out) ×
    Wrote l.initial.out l.at (member_lines l.name (λ i. leb l.least (get_or l.levels i 0)) (λ i. get_or l.levels i 0) l.i) (21 * l.i) l.out l.end
