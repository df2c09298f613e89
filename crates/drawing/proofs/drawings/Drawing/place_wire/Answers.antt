-- The wires with the new one are those of a sound plan.
use Rattle.std.proofs.Common.{◌≤◌, ◌<◌, ◌≡◌, ◌+◌, false, length, is_some, sym, ap, ◌∙◌, arith}
use Rattle.std.proofs.lemmas.Bool.{leb-false}
use Rattle.drawing.specs.Plans.{over_limit, too_narrow}
use Rattle.drawing.specs.Shown.{plan_of}
use Rattle.drawing.proofs.Accepted.{sound_insert}
use Rattle.drawing.proofs.Sounds.{held, sound_of, kept}
use Rattle.drawing.proofs.drawings.Drawing.place_wire.Goals as goal

pub invariant_of-self : goal.invariant_of-self
invariant_of-self c =
    let d = c.args.self.now in
    let l = held d in
    let at : c.args.place ≤ d.count = omega (arith, l, c.requires) in
    let room : d.count < 24 = leb-false 24 d.count c.in_ok-refuse_if-2.ensures in
    let limit : over_limit c.args.wire ≡ false = sym (c.is_some.ensures ∙ ap is_some c.first_above_limit-above.ensures) ∙ c.in_ok-refuse_if.ensures in
    let fit : too_narrow d.grid d.channel (length (plan_of d).wires + 1) ≡ false = ap (λ n. too_narrow d.grid d.channel (n + 1)) l ∙ sym c.too_narrow-narrow.ensures ∙ c.in_ok-refuse_if-3.ensures in
    let k = kept d.grid d.channel c.put_in.new.s (d.count + 1) _ (c.put_in.auto.s ∙ d.whole) (omega arith) c.put_in.ensures
    (sound_insert (plan_of d) c.args.place c.args.wire (sound_of d) (omega arith) limit (omega arith) fit) in
    record { whole = k.0; within = k.1; gridded = k.2; channelled = k.3; limited = k.4; fitting = k.5 }
