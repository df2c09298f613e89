-- Each stream is opened.
use Rattle.std.proofs.Common.{arith, rules}
use Rattle.stages.specs.Table.{Opened}
use Rattle.stages.proofs.Made.{each_made}
use Rattle.stages.proofs.merge.Merge.open_heads.Goals as goal

pub returns : goal.returns
returns g c = λ k lt.
    let s = c.args.self.now in
    each_made _ (λ k h. Opened (g.B.RuleBook.admits s.frame.now.book.now) s.frame.now.grid c.args.table.now s.begin s.stop c.args.space k h) _ _ 0 36
    (λ j y q call. search rules) c.from_fn.ensures.items.each k 0 (omega arith) (omega arith)
