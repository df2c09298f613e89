-- The turn begins, goes on and ends.
use Rattle.std.proofs.Common.{◌+◌, refl, ◌∙◌, subst, rules}
use Rattle.pricing.specs.Measures.{meaning}
use Rattle.stages.specs.Table.{Between}
use Rattle.stages.proofs.Leasts.{leasts_start}
use Rattle.stages.proofs.Turns.{ready}
use Rattle.stages.proofs.Fill.{task_again, turn_again, open_turn, close_turn}
use Rattle.stages.proofs.merge.Merge.fill_space.Goals as goal

pub loop-k-init : goal.loop-k-init
loop-k-init g c =
    let laws = g.met.M.DelayMeasure.lawful c.args.self.now.frame.now.measure.now in
    let q = c.requires in
    record {
      front = refl;
      task = q.task;
      turn = open_turn laws q.task (search rules) q.between c.open_heads-heads.ensures;
      leasts = leasts_start (meaning g.M.DelayMeasure c.args.self.now.frame.now.measure.now) _ _ _ _ q.between.earlier;
      long = search rules;
    }

pub invariant_of-first : goal.invariant_of-first
invariant_of-first g c =
    let laws = g.met.M.DelayMeasure.lawful c.args.self.now.frame.now.measure.now in
    record { high = c.loop-k.invariant.task.high; ready = ∣ ready laws c.loop-k.invariant.task c.loop-k.invariant.turn c.requires.space ∣₁ }

pub loop-k-preserved : goal.loop-k-preserved
loop-k-preserved g c =
    let inv = c.loop-k.invariant in
    let done = c.in_ok-end.ensures in
    record {
      front = done.turned.front ∙ inv.front;
      task = task_again inv.task done.turned.front (search rules);
      turn = turn_again done.turned;
      leasts = done.leasts;
      long = c.type_inv.heads;
    }

pub returns : goal.returns
returns g c =
    let s = c.args.self.now in
    let laws = g.met.M.DelayMeasure.lawful s.frame.now.measure.now in
    let inv = c.loop-k.invariant in
    let m = meaning g.M.DelayMeasure s.frame.now.measure.now in
    subst (λ z. Between m (g.B.RuleBook.admits s.frame.now.book.now) s.frame.now.grid s.frame.now.channel s.wire z s.begin s.stop (c.args.space + 1) c.loop-k.table c.loop-k.end) inv.front
    (close_turn laws inv.task inv.long inv.turn c.in_default.ensures)
