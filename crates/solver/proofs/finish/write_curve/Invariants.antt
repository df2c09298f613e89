-- The points gone through are written, and the rest is to come.
use Rattle.std.proofs.Common.{◌≡◌, drop, length}
use Rattle.pricing.specs.Measures.{meaning}
use Rattle.solver.specs.Front.{points_in, front}
use Rattle.solver.specs.Written.{Filled}
use Rattle.solver.proofs.finish.write_curve.Given as goal

abbrev pub invariant-loop-row : goal.invariant-loop-row
invariant-loop-row g l =
    (goal.iterator-loop-row g).can_next l.row-iterator
    × (goal.iterator-loop-row g).is_finite l.row-iterator
    × (l.row-iterator.rows.now ≡ l.fn.runs.rows.now)
    × (drop l.n (front (meaning g.M.DelayMeasure l.fn.runs.measure.now) l.fn.runs.after (points_in l.fn.runs.rows.now)) ≡ front (meaning g.M.DelayMeasure l.row-iterator.measure.now) l.row-iterator.after (points_in l.row-iterator.rows.now))
    × Filled g.M.DelayMeasure.EMPTY l.table l.first l.wires (front (meaning g.M.DelayMeasure l.fn.runs.measure.now) l.fn.runs.after (points_in l.fn.runs.rows.now)) l.n (length l.initial.points) (length l.initial.strip) l.points l.strip
