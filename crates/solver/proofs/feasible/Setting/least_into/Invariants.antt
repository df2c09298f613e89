-- The least behind the first places.
use Rattle.solver.specs.Least.{Into}
use Rattle.solver.proofs.feasible.Setting.least_into.Given as goal

abbrev pub invariant-loop-i : goal.invariant-loop-i
invariant-loop-i g l = Into (g.B.RuleBook.admits l.self.book.now) l.self.grid.widths l.self.channel l.row l.right l.i l.least
