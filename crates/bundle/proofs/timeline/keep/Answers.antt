-- A full timeline turns left by one, and its last place takes the drawing that is kept.
use Rattle.std.proofs.Common.{◌≡◌}
use Rattle.bundle.proofs.Lines.{keep_full}
use Rattle.bundle.proofs.timeline.keep.Goals as goal

pub returns-then-reach-eq-MOST_UNDOS-clause-past : goal.returns-then-reach-eq-MOST_UNDOS-clause-past
returns-then-reach-eq-MOST_UNDOS-clause-past c =
    let e : c.args.reach ≡ 64 = c.if-reach-eq-MOST_UNDOS.true in
    keep_full c.args.timeline.now c.rotate_left.new.self c.args.before c.args.reach e c.requires.whole c.rotate_left.ensures.after
