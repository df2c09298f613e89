-- Each place by its call.
use Rattle.std.proofs.Common.{◌+◌, None, rules}
use Rattle.solver.specs.Least.{FirstAt}
use Rattle.solver.proofs.Made.{made_each}
use Rattle.solver.proofs.feasible.first_row.Goals as goal

pub returns : goal.returns
returns c =
    let made = c.from_fn.ensures.items in
    record {
      six = made.long;
      each = made_each _ _ c.from_fn.result None (λ i y. FirstAt c.args.spaces c.args.channel (i + 1) y) (λ i y q k. search rules) 6 made;
    }
