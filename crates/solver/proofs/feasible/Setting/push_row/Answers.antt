-- Each place by its call.
use Rattle.std.proofs.Common.{◌+◌, None, rules}
use Rattle.solver.specs.Least.{PushedAt}
use Rattle.solver.proofs.Made.{made_each}
use Rattle.solver.proofs.feasible.Setting.push_row.Goals as goal

pub returns : goal.returns
returns g c =
    let made = c.from_fn.ensures.items in
    record {
      six = made.long;
      each = made_each _ _ c.from_fn.result None (λ i y. PushedAt (g.B.RuleBook.admits c.args.self.now.book.now) c.args.self.now.grid c.args.self.now.channel c.args.row.now (i + 1) y) (λ i y q k. search rules) 6 made;
    }
