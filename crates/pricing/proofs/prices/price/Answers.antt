-- A refusal is handed on, and an allocation that is not refused can be summed over.
use Rattle.std.proofs.lemmas.Result.{err_from_is_err_and}
use Rattle.drawing.specs.Edits.{first_reason}
use Rattle.drawing.specs.Shown.{plan_of}
use Rattle.pricing.specs.Allocations.{used_width}
use Rattle.pricing.specs.Measures.{meaning}
use Rattle.pricing.specs.Prices.{price_of}
use Rattle.pricing.specs.Replies.{price_reasons}
use Rattle.pricing.proofs.Accepted.{refused, ready_after}
use Rattle.pricing.proofs.prices.price.Goals as goal

pub returns-in_err-used : goal.returns-in_err-used
returns-in_err-used g c =
    let m = meaning g.M.DelayMeasure c.args.measure.now in
    let plan = plan_of c.args.drawing.now in
    let x = c.args.allocation.now in
    let reply = first_reason (price_reasons (g.B.RuleBook.admits c.args.book.now) plan x) in
    let p = err_from_is_err_and c.from_residual.result c.from_residual.ensures.1 in
    rw (p.1, p.2) (refused reply (used_width x) (price_of m plan.wires x) c.in_err-used.field-0.0 c.in_err-used.ensures)

pub power_of-power-requires : goal.power_of-power-requires
power_of-power-requires g c =
    ready_after (g.B.RuleBook.admits c.args.book.now) c.args.drawing.now c.args.allocation.now
    c.in_ok-used.used c.in_ok-used.ensures c.wires-wires.result.now c.wires-wires.ensures

pub delay_of-delay-requires : goal.delay_of-delay-requires
delay_of-delay-requires g c =
    ready_after (g.B.RuleBook.admits c.args.book.now) c.args.drawing.now c.args.allocation.now
    c.in_ok-used.used c.in_ok-used.ensures c.wires-wires.result.now c.wires-wires.ensures
