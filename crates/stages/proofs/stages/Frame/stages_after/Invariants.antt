-- The stages of the wires before this one stand.
use Rattle.pricing.specs.Measures.{meaning}
use Rattle.stages.specs.Chain.{drawn, Whole}
use Rattle.stages.proofs.stages.Frame.stages_after.Given as goal

abbrev pub invariant-loop-wire : goal.invariant-loop-wire
invariant-loop-wire g l =
    Whole (meaning g.M.DelayMeasure l.self.measure.now) (g.B.RuleBook.admits l.self.book.now) (drawn l.self.grid l.self.channel l.wires) (g.M.DelayMeasure.reach l.self.measure.now) l.wire-index
    l.table l.begin l.stop
