-- The wires without the one at the place are those of a sound plan.
use Rattle.std.proofs.Common.{◌<◌, ◌-◌, ◌∙◌, arith}
use Rattle.std.proofs.lemmas.Bool.{leb-false}
use Rattle.drawing.specs.Shown.{plan_of}
use Rattle.drawing.proofs.Accepted.{sound_remove}
use Rattle.drawing.proofs.Sounds.{held, sound_of, kept}
use Rattle.drawing.proofs.drawings.Drawing.remove.Goals as goal

pub invariant_of-self : goal.invariant_of-self
invariant_of-self c =
    let d = c.args.self.now in
    let l = held d in
    let at : c.args.place < d.count = leb-false d.count c.args.place c.in_ok-refuse_if.ensures in
    let k = kept d.grid d.channel c.take_out.new.s (d.count - 1) _ (c.take_out.auto.s ∙ d.whole) (omega (arith, d.within)) c.take_out.ensures
    (sound_remove (plan_of d) c.args.place (sound_of d) (omega arith)) in
    record { whole = k.0; within = k.1; gridded = k.2; channelled = k.3; limited = k.4; fitting = k.5 }
