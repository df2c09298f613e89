-- Whatever the measure is.
use Rattle.pricing.specs.Measures.{meaning}
use Rattle.frontier.proofs.Bare.{bare_none_holds}
use Rattle.frontier.proofs.stages.bare_none_holds.Goals as goal

pub returns : goal.returns
returns g c = λ m book d ok. bare_none_holds (meaning g.M.DelayMeasure m) book d
