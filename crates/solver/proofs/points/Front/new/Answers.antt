-- Nothing is gone through.
use Rattle.pricing.specs.Measures.{meaning}
use Rattle.solver.proofs.Merges.{heads_start}
use Rattle.solver.proofs.points.Front.new.Goals as goal

pub returns-clause-going : goal.returns-clause-going
returns-clause-going g c = record {
  reached = c.requires.reached;
  known = tt;
  runs = c.requires.runs;
  gone = heads_start (meaning g.M.DelayMeasure c.args.measure.now) g.M.DelayMeasure.EMPTY c.args.rows.now c.args.cuts c.requires.runs;
}
