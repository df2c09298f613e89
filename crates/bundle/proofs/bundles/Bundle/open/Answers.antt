-- A refusal is handed on.
use Rattle.std.proofs.Common.{◌≡◌, Err, sym, ap, ◌∙◌}
use Rattle.std.proofs.lemmas.Result.{err_from_is_err_and}
use Rattle.drawing.specs.Edits.{bare, first_reason, open_reasons}
use Rattle.bundle.specs.Views.{bare_view}
use Rattle.bundle.specs.Shown.{viewed}
use Rattle.bundle.proofs.Held.{refused_too}
use Rattle.bundle.proofs.bundles.Bundle.open.Goals as goal

pub returns-in_err-drawing-clause-value : goal.returns-in_err-drawing-clause-value
returns-in_err-drawing-clause-value c =
    let g = c.args.grid in
    let n = c.args.channel in
    let p = err_from_is_err_and c.from_residual.result c.from_residual.ensures.1 in
    let p1 = p.1 in
    let p2 = p.2 in
    let e : c.from_residual.result ≡ Err c.in_err-drawing.field-0.0 = cc in
    ap viewed e ∙ sym (refused_too (first_reason (open_reasons g n)) (bare g n) (bare_view (bare g n)) c.in_err-drawing.field-0.0 (sym c.in_err-drawing.ensures))
