-- The law is shown over histories alone.
use Rattle.bundle.proofs.Runs.{refused_leaves_nothing}
use Rattle.bundle.proofs.laws.refused_leaves_nothing_holds.Goals as goal

pub returns : goal.returns
returns c = refused_leaves_nothing
