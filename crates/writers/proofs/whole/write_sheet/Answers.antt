use Rattle.drawing.specs.Shown.{plan_of}
use Rattle.drawing.proofs.Sounds.{sound_of}
use Rattle.sheets.proofs.Trips.{reads_back}
use Rattle.writers.proofs.whole.write_sheet.Goals as goal

pub returns-clause-back : goal.returns-clause-back
returns-clause-back c = reads_back (plan_of c.args.drawing.now) (sound_of c.args.drawing.now)

pub returns-in_err-len-clause-back : goal.returns-in_err-len-clause-back
returns-in_err-len-clause-back c = reads_back (plan_of c.args.drawing.now) (sound_of c.args.drawing.now)
