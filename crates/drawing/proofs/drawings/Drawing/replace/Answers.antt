-- The wires with the new one at the place are those of a sound plan.
use Rattle.std.proofs.Common.{◌<◌, ◌≡◌, false, List, set, is_some, sym, ap, ◌∙◌, arith, rules}
use Rattle.std.proofs.Math.Seq.{take-set-lt}
use Rattle.std.proofs.lemmas.List.{length-set}
use Rattle.std.proofs.lemmas.Bool.{leb-false}
use Rattle.drawing.specs.declared.words.Wire.{Wire}
use Rattle.drawing.specs.Plans.{over_limit}
use Rattle.drawing.specs.Shown.{plan_of}
use Rattle.drawing.proofs.Accepted.{sound_replace}
use Rattle.drawing.proofs.Sounds.{held, sound_of, kept}
use Rattle.drawing.proofs.drawings.Drawing.replace.Goals as goal

pub invariant_of-self : goal.invariant_of-self
invariant_of-self c =
    let d = c.args.self.now in
    let l = held d in
    let at : c.args.place < d.count = leb-false d.count c.args.place c.in_ok-refuse_if.ensures in
    let limit : over_limit c.args.wire ≡ false = sym (c.is_some.ensures ∙ ap is_some c.first_above_limit-above.ensures) ∙ c.in_ok-refuse_if-2.ensures in
    let e = take-set-lt d.count d.wires c.args.place c.args.wire at in
    let k = kept d.grid d.channel (set d.wires c.args.place c.args.wire) d.count _
    (length-set d.wires c.args.place c.args.wire ∙ d.whole) d.within e
    (sound_replace (plan_of d) c.args.place c.args.wire (sound_of d) (omega arith) limit) in
    record { whole = k.0; within = k.1; gridded = k.2; channelled = k.3; limited = k.4; fitting = k.5 }

pub returns : goal.returns
returns c =
    let d = c.args.self.now in
    let at : c.args.place < d.count = leb-false d.count c.args.place c.in_ok-refuse_if.ensures in
    let e = take-set-lt d.count d.wires c.args.place c.args.wire at in
    record {
      reply = search rules;
      shows = ap (λ (z : List Wire). record { grid = d.grid; channel = d.channel; wires = z }) e;
      refused = search rules;
    }
