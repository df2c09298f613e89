-- Each cut by its call.
use Rattle.std.proofs.Common.{rules}
use Rattle.solver.specs.Front.{Cut}
use Rattle.solver.proofs.Made.{made_each}
use Rattle.solver.proofs.Orders.{runs_of}
use Rattle.solver.proofs.points.run_cuts.Goals as goal

pub returns : goal.returns
returns g c =
    let e = g.M.DelayMeasure.EMPTY in
    let rows = c.args.rows.now in
    let made = c.from_fn.ensures.items in
    runs_of e rows c.requires c.from_fn.result made.long (made_each _ _ c.from_fn.result 0 (λ k z. Cut e rows k z) (λ k z q h. search rules) 7 made)
