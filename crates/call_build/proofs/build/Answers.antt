-- `call_build::build` meets its contract: refused, or all parts are filled.
use Rattle.std.proofs.Common.{rules, ◌≡◌, sym, ap, ◌∙◌}
use Rattle.model.specs.Layout.{Board}
use Rattle.model.specs.Refusal.{build_refusal}
use Rattle.part_board.specs.Lent.{mut_board}
use Rattle.refusal_kind.specs.Number.{number, number_of}
use Rattle.refusal_kind.proofs.Refused.{refused}
use Rattle.call_build.proofs.Builds.{build_refused}
use Rattle.call_build.proofs.build.Goals as goal

pub returns-in_err-check_build-clause-outcome : goal.returns-in_err-check_build-clause-outcome
returns-in_err-check_build-clause-outcome c = let a = c.args in
    let r = c.in_err-check_build.field-0.0 in
    let same : number_of c.from_residual.result ≡ number r = search rules in
    build_refused (mut_board a.board.now) a.start _ (same ∙ c.in_err-check_build.ensures ∙ ap (λ (b : Board). build_refusal b a.start) c.as_ref.ensures) (rw same (refused r))

pub fill_parts-requires : goal.fill_parts-requires
fill_parts-requires c = sym (c.in_ok-check_build.ensures ∙ ap (λ (b : Board). build_refusal b c.args.start) c.as_ref.ensures)
