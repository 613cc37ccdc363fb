-- `call_preview::preview` meets its contract: refused, or the message taken on a copy of the board.
use Rattle.std.proofs.Common.{rules, ◌≡◌, sym, ap, ◌∙◌}
use Rattle.model.specs.Layout.{Board}
use Rattle.model.specs.Refusal.{preview_refusal}
use Rattle.model.specs.Outcome.{answered}
use Rattle.model.proofs.Preview.{preview_kept, preview_taken}
use Rattle.part_board.specs.Lent.{ref_board, mut_board}
use Rattle.refusal_kind.specs.Number.{number}
use Rattle.refusal_kind.proofs.Refused.{refused}
use Rattle.message_taking.specs.Deliver.{outcome_of}
use Rattle.call_preview.proofs.preview.Goals as goal

pub returns-in_err-check_preview-clause-outcome : goal.returns-in_err-check_preview-clause-outcome
returns-in_err-check_preview-clause-outcome c = let m = c.args.message in
    let b = ref_board c.args.board in
    let spare = mut_board c.args.spare.now in
    let r = c.in_err-check_preview.field-0.0 in
    let same : outcome_of c.from_residual.result spare ≡ answered (record { code = number r; differ = 0 }) spare = search rules in
    let told = c.in_err-check_preview.ensures ∙ ap (λ (x : Board). preview_refusal b m x.part) c.as_ref.ensures in
    same ∙ sym (preview_kept b m spare _ (sym told) (refused r))

pub take_on_copy-requires : goal.take_on_copy-requires
take_on_copy-requires c = sym (c.in_ok-check_preview.ensures ∙ ap (λ (x : Board). preview_refusal (ref_board c.args.board) c.args.message x.part) c.as_ref.ensures)

pub returns-clause-outcome : goal.returns-clause-outcome
returns-clause-outcome c = let m = c.args.message in
    let b = ref_board c.args.board in
    let told = c.in_ok-check_preview.ensures ∙ ap (λ (x : Board). preview_refusal b m x.part) c.as_ref.ensures in
    c.take_on_copy.ensures.outcome ∙ sym (preview_taken b m (mut_board c.args.spare.now) (sym told))
