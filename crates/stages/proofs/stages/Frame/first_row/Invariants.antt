-- The first spaces before the one whose turn it is are written.
use Rattle.pricing.specs.Measures.{meaning}
use Rattle.stages.specs.Openings.{Opening}
use Rattle.stages.proofs.stages.Frame.first_row.Given as goal

abbrev pub invariant-loop-space : goal.invariant-loop-space
invariant-loop-space g l = Opening (meaning g.M.DelayMeasure l.self.measure.now) l.self.grid l.self.channel l.space l.table l.end
