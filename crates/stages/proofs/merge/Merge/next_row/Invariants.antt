-- The spaces before the one whose turn it is are done.
use Rattle.std.proofs.Common.{◌≡◌, take}
use Rattle.pricing.specs.Measures.{meaning}
use Rattle.stages.specs.Table.{Task, Between}
use Rattle.stages.proofs.merge.Merge.next_row.Given as goal

abbrev pub invariant-loop-space : goal.invariant-loop-space
invariant-loop-space g l =
    let s = l.self in
    let m = meaning g.M.DelayMeasure s.frame.now.measure.now in
    record {
      front : take s.stop l.table ≡ take s.stop l.initial.table;
      task : Task m (g.M.DelayMeasure.reach s.frame.now.measure.now) s.frame.now.channel s.wire l.table s.begin s.stop;
      between : Between m (g.B.RuleBook.admits s.frame.now.book.now) s.frame.now.grid s.frame.now.channel s.wire (take s.stop l.table) s.begin s.stop l.space l.table l.end;
    }
