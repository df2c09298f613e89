-- By the laws of the measure.
use Rattle.pricing.specs.Measures.{meaning}
use Rattle.frontier.proofs.Reach.{limited_wires}
use Rattle.frontier.proofs.OneCurve.{curve_is}
use Rattle.frontier.proofs.curves.curve_is_holds.Goals as goal

pub returns : goal.returns
returns g c = λ m book d ok. curve_is (meaning g.M.DelayMeasure m) (g.met.M.DelayMeasure.lawful m) book d (limited_wires d ok)
