-- The least of the heads before k.
use Rattle.std.proofs.Common.{take}
use Rattle.pricing.specs.Measures.{meaning}
use Rattle.stages.specs.Table.{Least}
use Rattle.stages.proofs.streams.Streams.first.Given as goal

abbrev pub invariant-loop-k : goal.invariant-loop-k
invariant-loop-k g l =
    let s = l.self in
    Least (meaning g.M.DelayMeasure s.merge.now.frame.now.measure.now) s.merge.now.wire (take s.merge.now.stop s.table.now) s.merge.now.stop s.heads.now s.space l.k l.best
