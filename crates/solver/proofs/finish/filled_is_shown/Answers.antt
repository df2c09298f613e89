-- By the laws of the measure.
use Rattle.pricing.specs.Measures.{meaning}
use Rattle.solver.proofs.Shows.{filled_shown}
use Rattle.solver.proofs.finish.filled_is_shown.Goals as goal

pub returns : goal.returns
returns g c = λ m. filled_shown (meaning g.M.DelayMeasure m) (g.met.M.DelayMeasure.lawful m) g.M.DelayMeasure.EMPTY
