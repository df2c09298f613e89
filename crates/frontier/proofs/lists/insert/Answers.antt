-- No more stand above than there are places.
use Rattle.std.proofs.Common.{◌-◌, drop, arith}
use Rattle.std.specs.List.{between}
use Rattle.std.proofs.lemmas.List.{length-take}
use Rattle.frontier.proofs.Placing.{above_most}
use Rattle.frontier.proofs.lists.insert.Goals as goal

pub overflow_sub-to : goal.overflow_sub-to
overflow_sub-to g c =
    let t = above_most (g.R.Record.upto c.args.measure.now) c.args.x (between c.args.from c.args.to c.args.list.now) in
    let l = length-take (c.args.to - c.args.from) (drop c.args.from c.args.list.now) in
    let e = c.count_above-above.ensures in
    omega arith
