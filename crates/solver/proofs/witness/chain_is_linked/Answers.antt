-- By the chain.
use Rattle.pricing.specs.Measures.{meaning}
use Rattle.solver.proofs.Trails.{linked_safe, chained_linked}
use Rattle.solver.proofs.witness.chain_is_linked.Goals as goal

pub returns : goal.returns
returns g c = λ m book d table cut n h j i a b k.
    let l = chained_linked (meaning g.M.DelayMeasure m) book d g.M.DelayMeasure.EMPTY table cut n h j i a b k in
    (l, linked_safe (meaning g.M.DelayMeasure m) book d g.M.DelayMeasure.EMPTY table j i l)
