-- The law is shown over histories alone.
use Rattle.bundle.proofs.Runs.{always_sound}
use Rattle.bundle.proofs.laws.always_sound_holds.Goals as goal

pub returns : goal.returns
returns c = always_sound
