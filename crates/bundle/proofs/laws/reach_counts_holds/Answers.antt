-- The law is shown over histories alone.
use Rattle.bundle.proofs.Runs.{reach_counts}
use Rattle.bundle.proofs.laws.reach_counts_holds.Goals as goal

pub returns : goal.returns
returns c = reach_counts
