-- `cover_text::put_bytes` meets its contract.
use mathlib.Core.Path.{refl, ap, ◌∙◌}
use mathlib.Core.List.{List}
use Prim.Native.Nat.{ℕ, ◌+◌, ◌-◌}
use native.Mathlib.Omega.{arith}
use lib.ListN.{length}
use borrow.Rule.Slice.PartMut.{put_mid}
use Rattle.cover_text.proofs.Write.{put_sets}
use Rattle.cover_text.proofs.put_bytes.Goals as goal

pub returns : goal.returns
returns c =
    let a = c.args in
    record {
      bytes = ap (λ (x : List ℕ). put_mid a.at (a.at + length a.text.now - a.at) a.out.now x) c.copy_from_slice.ensures.after ∙ put_sets a.out.now a.at a.text.now (omega arith);
      stops = refl;
      short = omega arith;
    }
