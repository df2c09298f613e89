-- By the laws of the measure.
use Rattle.pricing.specs.Measures.{meaning}
use Rattle.solver.proofs.RowsCurve.{rows_curve}
use Rattle.solver.proofs.points.rows_are_the_curve.Goals as goal

pub returns : goal.returns
returns g c = λ m. rows_curve (meaning g.M.DelayMeasure m) (g.met.M.DelayMeasure.lawful m)
