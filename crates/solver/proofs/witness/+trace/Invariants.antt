-- Each call is for the stage before.
use Rattle.solver.proofs.witness.+trace.Given as goal

abbrev pub decreases-trace : goal.decreases-trace
decreases-trace g l = l.stage
