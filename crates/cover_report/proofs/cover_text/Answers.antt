-- `cover_report::cover_text` meets its contract.
use mathlib.Core.Path.{◌≡◌, sym, ap, subst, ◌∙◌}
use Prim.Native.Nat.{◌+◌, ◌*◌, ◌≤◌}
use native.Mathlib.Omega.{arith}
use lib.ListN.{length}
use Rattle.model.specs.declared.Head.{Head}
use Rattle.refusal_kind.specs.Number.{number}
use Rattle.refusal_kind.proofs.Refused.{refused}
use Rattle.cover_input.specs.Input.{head}
use Rattle.cover_report.specs.Sizes.{Sizes, input_text}
use Rattle.cover_report.proofs.Sizes.{checked, text_refused, text_checked}
use Rattle.cover_text.proofs.Write.{wrote_most}
use Rattle.cover_report.proofs.Report.{reported}
use Rattle.cover_report.proofs.cover_text.Goals as goal

pub answer_input-requires : goal.answer_input-requires
answer_input-requires c =
    let input = c.args.input.now in
    let e = c.in-Ok.ensures in
    let ok = checked (length input) (head input) (sym e.refused) in (
      subst Sizes (sym e.read.1) ok.0,
      subst (λ (h : Head). length input ≡ 10 + 4 * h.pairs) (sym e.read.1) ok.1,
    )

pub returns-in-Ok : goal.returns-in-Ok
returns-in-Ok c =
    let input = c.args.input.now in
    let e = c.in-Ok.ensures in
    let room : 5490 ≤ length c.args.out.now = omega arith in
    reported input room (ap (input_text input) e.read.1 ∙ text_checked input (sym e.refused)) c.answer_input.ensures

pub returns-in-Err : goal.returns-in-Err
returns-in-Err c =
    let input = c.args.input.now in
    let r = c.in-Err.refusal in
    let room : 5490 ≤ length c.args.out.now = omega arith in
    reported input room (text_refused input (number r) (refused r) c.in-Err.ensures.refused) (wrote_most 5490 (omega arith) c.put_refusal.ensures)
