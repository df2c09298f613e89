-- The used widths that are passed are noted, and the others are as they were.
use Rattle.std.proofs.Common.{◌≡◌, ℕ, ◌<◌, ◌≤◌, get_or, None}
use Rattle.pricing.specs.Measures.{meaning}
use Rattle.stages.specs.Table.{lesser}
use Rattle.stages.proofs.delays.note_delay.Given as goal

abbrev pub invariant-loop-place : goal.invariant-loop-place
invariant-loop-place g l = record {
  passed : (u : ℕ) → u < l.place-index → get_or l.place-items u None ≡ lesser (meaning g.M.DelayMeasure l.measure) l.table l.end (get_or l.initial.place-items u None) l.x.delay;
  others : (u : ℕ) → l.place-index ≤ u → get_or l.place-items u None ≡ get_or l.initial.place-items u None;
}
