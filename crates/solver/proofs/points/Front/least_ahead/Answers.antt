-- One row more: it is not ahead, it is set against the least so far, or it and all that follow have more power.
use Rattle.std.proofs.Common.{◌≡◌, ℕ, ◌+◌, ◌<◌, length, Some, None, Option, sym, ap, ◌∙◌, subst, arith}
use Rattle.pricing.specs.Measures.{meaning}
use Rattle.frontier.specs.declared.records.Point.{Point}
use Rattle.solver.specs.Front.{row_at, ahead, LeastIn}
use Rattle.solver.proofs.Bests.{joined, least_one, least_none, stays}
use Rattle.solver.proofs.points.Front.least_ahead.Goals as goal
use Rattle.solver.proofs.points.Front.least_ahead.Goals.{then-is_ahead, else-is_ahead}

pub loop-i-preserved : goal.loop-i-preserved
loop-i-preserved g c =
    let front = c.args.self.now in
    let m = meaning g.M.DelayMeasure front.measure.now in
    let laws = g.met.M.DelayMeasure.lawful front.measure.now in
    let e = g.M.DelayMeasure.EMPTY in
    let rows = front.rows.now in
    let o = front.after in
    let fine = c.requires.reached in
    let from = c.args.from in
    let i = c.loop-i.i in
    let least = c.loop-i.least in
    let high = c.requires.high in
    let lt = c.loop-i-test.true in
    let here : i < length rows = omega arith in
    let is : c.is_ahead.result ≡ ahead m o (row_at e rows i).delay = c.is_ahead.ensures ∙ ap (λ (p : Point g.row.M-Value.Denot). ahead m o p.delay) c.price_at-here.ensures in
    let F : Option ℕ → Type 0 = λ z. LeastIn m e rows o from (i + 1) z in
    let more = joined m laws e rows fine o from i (i + 1) c.loop-i.auto.i (omega arith) (omega arith) least in
    elim c.if-is_ahead.branch [
      | then-is_ahead w ↦ subst F (sym (w.least-is ∙ w.earlier-least.ensures)) (more (Some i) c.loop-i.invariant (least_one m laws e rows fine o i here (sym is ∙ w.if-is_ahead.true)))
      | else-is_ahead w ↦ subst F (sym w.least-is) (subst F (stays m laws e rows fine o least) (more None c.loop-i.invariant (least_none m laws e rows fine o i (sym is ∙ w.if-is_ahead.false))))
    ]
