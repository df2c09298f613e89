-- The stream begins at the first state of its last space.
use Rattle.std.proofs.Common.{sym}
use Rattle.stages.proofs.Skips.{skipped}
use Rattle.stages.proofs.merge.Merge.open_head.Goals as goal

pub returns-then-allows : goal.returns-then-allows
returns-then-allows g c =
    let s = skipped c.args.table.now c.args.self.now.begin c.args.self.now.stop _ _ c.requires.low c.requires.high c.skip.ensures.first in
    record {
      low = s.low;
      high = s.high;
      last = s.found;
      lawful = λ h. (sym c.if-in_grid.ensures, sym c.if-allows.ensures);
      none = λ i d l h e on book. s.passed i d l h e;
    }
