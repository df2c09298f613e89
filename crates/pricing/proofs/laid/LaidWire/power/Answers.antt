-- No part passes its bound, so no sum does.
use Rattle.std.proofs.Common.{ap, arith}
use Rattle.std.proofs.lemmas.Bool.{and_parts}
use Rattle.drawing.specs.Plans.{within_limits}
use Rattle.rules.specs.Steps.{three_steps}
use Rattle.pricing.specs.Allocations.{Laid}
use Rattle.pricing.specs.WirePrices.{wire_power}
use Rattle.pricing.proofs.Limits.{power_parts, power_small, sum_fits}
use Rattle.pricing.proofs.laid.LaidWire.power.Goals as goal

pub overflow_add-result : goal.overflow_add-result
overflow_add-result c =
    let y = c.self.inside in
    let fit = and_parts (within_limits y.wire) (three_steps y.left y.width y.right) c.self.invariant in
    let parts = power_parts y.wire y.left y.width y.right fit.0 fit.1 in
    sum_fits _ _ _ (omega arith) (omega arith) (omega arith)

pub returns : goal.returns
returns c =
    let y = c.self.inside in
    let fit = and_parts (within_limits y.wire) (three_steps y.left y.width y.right) c.self.invariant in
    let z : Laid = record { wire = y.wire; left = y.left; width = y.width; right = y.right } in
    record { exact = ap wire_power c.self.view_is; small = power_small z fit.0 fit.1 }
