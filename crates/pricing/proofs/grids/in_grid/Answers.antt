-- The bit says it for the numbers 1 to 6, and no other is a step.
use Rattle.std.proofs.Common.{rules}
use Rattle.pricing.proofs.Steps.{inside}
use Rattle.pricing.proofs.grids.in_grid.Goals as goal

pub returns-then-contains : goal.returns-then-contains
returns-then-contains c = inside c.args.byte c.args.step (search rules) (search rules)
