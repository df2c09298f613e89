-- The least of the rows gone through.
use Rattle.pricing.specs.Measures.{meaning}
use Rattle.solver.specs.Front.{LeastIn}
use Rattle.solver.proofs.points.Front.least_ahead.Given as goal

abbrev pub invariant-loop-i : goal.invariant-loop-i
invariant-loop-i g l = LeastIn (meaning g.M.DelayMeasure l.self.measure.now) g.M.DelayMeasure.EMPTY l.self.rows.now l.self.after l.from l.i l.least
