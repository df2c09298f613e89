-- One more than the number of trailing zeros is the smallest step.
use Rattle.std.proofs.Common.{arith}
use Rattle.drawing.proofs.Steps.{smallest_told}
use Rattle.drawing.proofs.limits.smallest_step.Goals as goal

pub returns : goal.returns
returns c =
    let s = smallest_told c.args.byte c.requires in
    record { value = s.0; small = omega arith }
