-- The part from the place on, turned left by one, ends with the element that goes.
use Rattle.std.proofs.Common.{refl}
use Rattle.drawing.proofs.Moves.{take_out}
use Rattle.drawing.proofs.shift.take_out.Goals as goal

pub returns : goal.returns
returns g c = take_out c.args.s.now _ c.args.i c.args.n c.requires.place c.requires.room _ refl c.rotate_left.ensures.after
