-- The runs before are gone through, and their heads are moved.
use Rattle.std.proofs.Common.{get_or}
use Rattle.pricing.specs.Measures.{meaning}
use Rattle.solver.specs.Front.{LeastIn, Heads}
use Rattle.solver.proofs.points.Front.least.Given as goal

abbrev pub invariant-loop-k : goal.invariant-loop-k
invariant-loop-k g l =
    Heads (meaning g.M.DelayMeasure l.self.measure.now) g.M.DelayMeasure.EMPTY l.self.rows.now l.self.cuts l.self.after l.head-items
    × LeastIn (meaning g.M.DelayMeasure l.self.measure.now) g.M.DelayMeasure.EMPTY l.self.rows.now l.self.after 0 (get_or l.self.cuts l.k 0) l.least
