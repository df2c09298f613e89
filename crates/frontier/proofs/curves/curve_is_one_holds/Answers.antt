-- By the laws of the measure.
use Rattle.pricing.specs.Measures.{meaning}
use Rattle.frontier.proofs.Reach.{limited_wires}
use Rattle.frontier.proofs.OneCurve.{curve_unique}
use Rattle.frontier.proofs.curves.curve_is_one_holds.Goals as goal

pub returns : goal.returns
returns g c = λ m book d ok. curve_unique (meaning g.M.DelayMeasure m) (g.met.M.DelayMeasure.lawful m) book d (limited_wires d ok)
