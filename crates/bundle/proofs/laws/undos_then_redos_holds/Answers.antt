-- The law is shown over histories alone.
use Rattle.bundle.proofs.Runs.{undos_then_redos}
use Rattle.bundle.proofs.laws.undos_then_redos_holds.Goals as goal

pub returns : goal.returns
returns c = undos_then_redos
