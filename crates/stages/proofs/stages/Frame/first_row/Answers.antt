-- Before the first space nothing is written.
use Rattle.stages.proofs.Openings.{opening_start}
use Rattle.stages.proofs.stages.Frame.first_row.Goals as goal

pub loop-space-init : goal.loop-space-init
loop-space-init g c = opening_start _ _ _ _
