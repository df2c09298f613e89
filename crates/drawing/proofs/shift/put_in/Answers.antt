-- The part from the place on, turned right by one, begins with the element.
use Rattle.std.proofs.Common.{refl}
use Rattle.drawing.proofs.Moves.{put_in}
use Rattle.drawing.proofs.shift.put_in.Goals as goal

pub returns : goal.returns
returns g c = put_in c.args.s.now _ c.args.i c.args.n c.args.x c.requires.place c.requires.room _ refl c.rotate_right.ensures.after
