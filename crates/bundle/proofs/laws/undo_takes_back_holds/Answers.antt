-- The law is shown over histories alone.
use Rattle.bundle.proofs.Runs.{undo_takes_back}
use Rattle.bundle.proofs.laws.undo_takes_back_holds.Goals as goal

pub returns : goal.returns
returns c = undo_takes_back
