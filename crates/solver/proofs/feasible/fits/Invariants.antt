-- The row of the wires gone through.
use Rattle.std.proofs.Common.{take}
use Rattle.drawing.specs.Shown.{plan_of}
use Rattle.frontier.proofs.Allocations.{drawn}
use Rattle.solver.specs.Least.{Least}
use Rattle.solver.proofs.feasible.fits.Given as goal

abbrev pub invariant-rows : goal.invariant-rows
invariant-rows g l = Least (g.B.RuleBook.admits l.book) (drawn l.setting.grid l.setting.channel (take l.index (plan_of l.drawing).wires)) l.row
