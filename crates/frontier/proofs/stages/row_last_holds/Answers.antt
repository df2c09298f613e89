-- By the laws of the measure.
use Rattle.pricing.specs.Measures.{meaning}
use Rattle.frontier.proofs.Reach.{limited_wires}
use Rattle.frontier.proofs.Ends.{row_last_holds}
use Rattle.frontier.proofs.stages.row_last_holds.Goals as goal

pub returns : goal.returns
returns g c = λ m book d ok. row_last_holds (meaning g.M.DelayMeasure m) (g.met.M.DelayMeasure.lawful m) book d (limited_wires d ok)
