-- The part behind the head is searched.
use Rattle.std.proofs.Common.{◌+◌, get_or, arith}
use Rattle.stages.proofs.Skips.{skipped}
use Rattle.stages.proofs.streams.Streams.next.Goals as goal

pub returns : goal.returns
returns g c =
    let s = c.args.self.now in
    skipped s.table.now (get_or s.heads.now c.args.k 0 + 1) s.merge.now.stop _ _ (omega (arith, c.requires.1)) s.high c.skip.ensures.first
