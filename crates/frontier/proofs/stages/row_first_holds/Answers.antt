-- Whatever the measure is.
use Rattle.pricing.specs.Measures.{meaning}
use Rattle.frontier.proofs.Ends.{row_first_holds}
use Rattle.frontier.proofs.stages.row_first_holds.Goals as goal

pub returns : goal.returns
returns g c = λ m book d ok. row_first_holds (meaning g.M.DelayMeasure m) book d
