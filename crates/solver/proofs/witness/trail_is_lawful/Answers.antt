-- By the way back.
use Rattle.pricing.specs.Measures.{meaning}
use Rattle.solver.proofs.Trails.{witnessed}
use Rattle.solver.proofs.witness.trail_is_lawful.Goals as goal

pub returns : goal.returns
returns g c = λ m book d table i k. witnessed (meaning g.M.DelayMeasure m) book d g.M.DelayMeasure.EMPTY table i k
