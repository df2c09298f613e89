-- Each turn makes one stage more.
use Rattle.stages.proofs.Wholes.{begin, go_on, too_many, laid_next}
use Rattle.stages.proofs.stages.Frame.stages_after.Goals as goal

pub loop-wire-init : goal.loop-wire-init
loop-wire-init g c =
    let laws = g.met.M.DelayMeasure.lawful c.args.self.now.measure.now in
    begin _ laws _ _ c.requires.sound _ _ c.requires.begun

pub next_row-requires : goal.next_row-requires
next_row-requires g c =
    let laws = g.met.M.DelayMeasure.lawful c.args.self.now.measure.now in
    laid_next _ laws _ _ c.requires.sound _ _ _ _ _ c.loop-wire-test.true c.loop-wire.invariant

pub loop-wire-preserved : goal.loop-wire-preserved
loop-wire-preserved g c =
    let laws = g.met.M.DelayMeasure.lawful c.args.self.now.measure.now in
    go_on _ laws _ _ c.requires.sound _ _ _ _ _ _ _ c.loop-wire-test.true c.loop-wire.invariant c.in_ok-end.ensures

pub returns-in_err-end : goal.returns-in_err-end
returns-in_err-end g c =
    let laws = g.met.M.DelayMeasure.lawful c.args.self.now.measure.now in
    rw c.from_residual.ensures
    (too_many _ laws _ _ c.requires.sound _ _ _ _ _ _ c.loop-wire-test.true c.loop-wire.invariant c.in_err-end.ensures)
