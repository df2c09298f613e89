-- The turn of the space stands, and the streams grow shorter.
use Rattle.std.proofs.Common.{◌≡◌, ◌-◌, length, take, sum_by}
use Rattle.pricing.specs.Measures.{meaning}
use Rattle.stages.specs.Table.{Leasts, Task, Turn}
use Rattle.stages.proofs.merge.Merge.fill_space.Given as goal

abbrev pub invariant-loop-k : goal.invariant-loop-k
invariant-loop-k g l =
    let s = l.self in
    let m = meaning g.M.DelayMeasure s.frame.now.measure.now in
    record {
      front : take s.stop l.table ≡ take s.stop l.initial.table;
      task : Task m (g.M.DelayMeasure.reach s.frame.now.measure.now) s.frame.now.channel s.wire l.table s.begin s.stop;
      turn : Turn m (g.B.RuleBook.admits s.frame.now.book.now) s.frame.now.grid s.frame.now.channel s.wire (take s.stop l.table) s.begin s.stop l.space l.heads l.table l.end;
      leasts : Leasts m l.table s.stop l.end l.space l.least;
      long : length l.heads ≡ 36;
    }

abbrev pub decreases-loop-k : goal.decreases-loop-k
decreases-loop-k g l = sum_by (λ h. l.self.stop - h) l.heads
