-- The states of stage 0 alone outnumber the table.
use Rattle.drawing.proofs.Sounds.{sound_of}
use Rattle.stages.proofs.Wholes.{none_begin}
use Rattle.stages.proofs.stages.all_stages.Goals as goal

pub returns-in_err-first : goal.returns-in_err-first
returns-in_err-first g c =
    let laws = g.met.M.DelayMeasure.lawful c.args.measure.now in
    let few = rw (c.grid-grid.ensures, c.channel-channel.ensures) at c.in_err-first.ensures in
    rw c.from_residual.ensures (none_begin _ laws _ _ (sound_of c.args.drawing.now) _ few)
