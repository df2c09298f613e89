-- One space more is done, and after the last the stage holds the kept states of a plan.
use Rattle.std.proofs.Common.{refl, ◌∙◌, arith, rules}
use Rattle.stages.proofs.Fill.{task_again, between_again, start_turn, stage_done}
use Rattle.stages.proofs.Courses.{task_of, onward_full, onward_of}
use Rattle.stages.proofs.merge.Merge.next_row.Goals as goal

pub loop-space-init : goal.loop-space-init
loop-space-init g c =
    let laws = g.met.M.DelayMeasure.lawful c.args.self.now.frame.now.measure.now in
    let task = task_of laws c.requires.1 in
    record { front = refl; task = task; between = start_turn laws task }

pub loop-space-preserved : goal.loop-space-preserved
loop-space-preserved g c =
    let inv = c.loop-space.invariant in
    let done = c.in_ok-end.ensures in
    record {
      front = done.front ∙ inv.front;
      task = task_again inv.task done.front (search rules);
      between = between_again done;
    }

pub returns-in_err-end : goal.returns-in_err-end
returns-in_err-end g c =
    let laws = g.met.M.DelayMeasure.lawful c.args.self.now.frame.now.measure.now in
    let few = rw c.loop-space.invariant.front at c.in_err-end.ensures in
    rw c.from_residual.ensures (λ w go. onward_full laws go c.fill_space.new.table few)

pub returns : goal.returns
returns g c w go =
    let laws = g.met.M.DelayMeasure.lawful c.args.self.now.frame.now.measure.now in
    let inv = c.loop-space.invariant in
    onward_of laws go c.loop-space.table c.loop-space.end inv.front (stage_done laws c.args.table.now (omega arith) inv.front inv.task inv.between)
