-- `cover_lines::put_cover` meets its contract.
use mathlib.Core.Path.{◌≡◌, ap, ◌∙◌}
use mathlib.Core.List.{List}
use Prim.Native.Nat.{ℕ, ◌+◌}
use native.Mathlib.Omega.{arith}
use lib.ListN.{length, take, get_or}
use Rattle.std.proofs.lemmas.List.{length-take-le, get_or-take, get_or-drop}
use Rattle.cover_lines.proofs.Lines.{row_text}
use Rattle.cover_text.proofs.Write.{wrote_append, wrote_text, wrote_most}
use Rattle.cover_lines.proofs.put_cover.Goals as goal

pub returns : goal.returns
returns c =
    let a = c.args in
    let s = c.split_at.ensures in
    let others : List ℕ = c.split_at.result.1.now in
    let few : length c.split_at.result.0.now ≡ a.operators = omega (arith, s.front_len, c.from.ensures) in
    let less : length (take c.from-2.result others) ≡ a.rides = length-take-le c.from-2.result others (omega (arith, s.back_len, c.from.ensures, c.from-2.ensures)) ∙ c.from-2.ensures in
    wrote_most 5490 (omega (arith, few, less))
    (wrote_text
    (rw (c.count_members-operator_count.ensures, c.count_members-ride_count.ensures, c.least-operator_least.ensures, c.least-ride_least.ensures)
    (row_text a.alpha a.beta a.operators a.rides a.levels.now _ _
    few (λ u l. ap (λ (x : List ℕ). get_or x u 0) s.front ∙ get_or-take c.from.result a.levels.now u 0 (omega (arith, l, c.from.ensures)))
    less
    (λ v l.
    get_or-take c.from-2.result others v 0 (omega (arith, l, c.from-2.ensures)) ∙
    ap (λ (x : List ℕ). get_or x v 0) s.back ∙
    get_or-drop c.from.result a.levels.now v 0 ∙
    ap (λ (i : ℕ). get_or a.levels.now (i + v) 0) c.from.ensures)))
    (wrote_append (wrote_append c.put_first-first.ensures c.put_members-second.ensures) c.put_members.ensures))
