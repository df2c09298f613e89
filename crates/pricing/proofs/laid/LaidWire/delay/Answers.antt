-- No part passes its bound, so no sum does.
use Rattle.std.proofs.Common.{ap, arith}
use Rattle.std.proofs.lemmas.Bool.{and_parts}
use Rattle.drawing.specs.Plans.{within_limits}
use Rattle.rules.specs.Steps.{three_steps}
use Rattle.pricing.specs.Allocations.{Laid}
use Rattle.pricing.specs.WirePrices.{wire_delay}
use Rattle.pricing.proofs.Limits.{delay_parts, delay_small, product_fits, sum_fits}
use Rattle.pricing.proofs.laid.LaidWire.delay.Goals as goal

pub overflow_mul-own-2 : goal.overflow_mul-own-2
overflow_mul-own-2 c =
    let y = c.self.inside in
    let fit = and_parts (within_limits y.wire) (three_steps y.left y.width y.right) c.self.invariant in
    let parts = delay_parts y.wire y.left y.width y.right fit.0 fit.1 in
    omega arith

pub overflow_add-result : goal.overflow_add-result
overflow_add-result c =
    let y = c.self.inside in
    let fit = and_parts (within_limits y.wire) (three_steps y.left y.width y.right) c.self.invariant in
    let parts = delay_parts y.wire y.left y.width y.right fit.0 fit.1 in
    omega arith

pub overflow_mul-result : goal.overflow_mul-result
overflow_mul-result c =
    let y = c.self.inside in
    let fit = and_parts (within_limits y.wire) (three_steps y.left y.width y.right) c.self.invariant in
    let parts = delay_parts y.wire y.left y.width y.right fit.0 fit.1 in
    product_fits _ _ (omega arith) (omega arith)

pub overflow_add-result-2 : goal.overflow_add-result-2
overflow_add-result-2 c =
    let y = c.self.inside in
    let fit = and_parts (within_limits y.wire) (three_steps y.left y.width y.right) c.self.invariant in
    let parts = delay_parts y.wire y.left y.width y.right fit.0 fit.1 in
    sum_fits _ _ _ (omega arith) (omega arith) (omega arith)

pub returns : goal.returns
returns c =
    let y = c.self.inside in
    let fit = and_parts (within_limits y.wire) (three_steps y.left y.width y.right) c.self.invariant in
    let z : Laid = record { wire = y.wire; left = y.left; width = y.width; right = y.right } in
    record { exact = ap wire_delay c.self.view_is; small = delay_small z fit.0 fit.1 }
