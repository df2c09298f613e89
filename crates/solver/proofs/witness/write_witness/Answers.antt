-- The part is replaced, and nothing else.
use Rattle.std.proofs.Common.{◌≡◌, ◌+◌, ◌-◌, ◌*◌, arith, drop-drop}
use Rattle.solver.proofs.witness.write_witness.Goals as goal

pub returns : goal.returns
returns g c =
    let k : (49 * c.args.row + 49) - 49 * c.args.row ≡ 49 = omega arith in
    rw (c.trace.ensures, k, drop-drop 49 (49 * c.args.row) c.args.strip.now)
