-- One run more: its head is moved, and its least is set against the least so far.
use Rattle.std.proofs.Common.{◌≡◌, ℕ, ◌+◌, ◌<◌, length, get_or, Option, sym, ap, ◌∙◌, subst, arith}
use Rattle.pricing.specs.Measures.{meaning}
use Rattle.solver.specs.Front.{FirstAhead, LeastIn}
use Rattle.solver.proofs.Bests.{joined, picked}
use Rattle.solver.proofs.Merges.{head_new, run_least, heads_set}
use Rattle.solver.proofs.points.Front.least.Goals as goal

pub loop-k-init : goal.loop-k-init
loop-k-init g c = (c.requires.gone, λ i a b t. let s = c.requires.runs.starts in absurd (omega arith))

pub first_ahead-requires : goal.first_ahead-requires
first_ahead-requires g c =
    record { low = (c.loop-k.invariant.0.each c.loop-k.k c.loop-k-test.true).high; high = let six = c.loop-k-test.true in c.requires.runs.inside (c.loop-k.k + 1) (omega arith) }

pub least_ahead-pick-requires : goal.least_ahead-pick-requires
least_ahead-pick-requires g c =
    let runs = c.requires.runs in
    let k = c.loop-k.k in
    let six : k < 6 = c.loop-k-test.true in
    let old = (c.loop-k.invariant.0.each k six).low in
    let front = c.args.self.now in
    let first = subst (λ (z : ℕ). FirstAhead (meaning g.M.DelayMeasure front.measure.now) g.M.DelayMeasure.EMPTY front.rows.now front.after (get_or c.loop-k.head-items k 0) (get_or front.cuts (k + 1) 0) z) (sym c.unwrap_or-first.ensures) c.first_ahead.ensures in
    let low = first.low in
    record {
      reached = c.requires.reached;
      low = first.high;
      high = runs.inside (k + 1) (omega arith);
      sorted = λ i j a b h. runs.sorted k i j six (omega arith) b h;
    }

pub earlier-least-requires : goal.earlier-least-requires
earlier-least-requires g c =
    let front = c.args.self.now in
    let m = meaning g.M.DelayMeasure front.measure.now in
    let laws = g.met.M.DelayMeasure.lawful front.measure.now in
    let e = g.M.DelayMeasure.EMPTY in
    let rows = front.rows.now in
    let runs = c.requires.runs in
    let k = c.loop-k.k in
    let six : k < 6 = c.loop-k-test.true in
    record {
      first = picked m laws e rows c.requires.reached front.after 0 (get_or front.cuts k 0) (runs.inside k (omega arith)) c.loop-k.least c.loop-k.invariant.1;
      second = picked m laws e rows c.requires.reached front.after c.unwrap_or-first.result (get_or front.cuts (k + 1) 0) (runs.inside (k + 1) (omega arith)) c.least_ahead-pick.result c.least_ahead-pick.ensures;
    }

pub loop-k-preserved : goal.loop-k-preserved
loop-k-preserved g c =
    let front = c.args.self.now in
    let m = meaning g.M.DelayMeasure front.measure.now in
    let laws = g.met.M.DelayMeasure.lawful front.measure.now in
    let e = g.M.DelayMeasure.EMPTY in
    let rows = front.rows.now in
    let cuts = front.cuts in
    let o = front.after in
    let fine = c.requires.reached in
    let runs = c.requires.runs in
    let k = c.loop-k.k in
    let six : k < 6 = c.loop-k-test.true in
    let heads = c.loop-k.head-items in
    let old = c.loop-k.invariant.0.each k six in
    let h = c.unwrap_or-first.result in
    let first = subst (λ (z : ℕ). FirstAhead m e rows o (get_or heads k 0) (get_or cuts (k + 1) 0) z) (sym c.unwrap_or-first.ensures) c.first_ahead.ensures in
    let pick = c.least_ahead-pick.result in (
      heads_set m e rows cuts o heads k h six c.loop-k.invariant.0 (head_new m laws e rows fine o cuts runs k six (get_or heads k 0) old h first),
      subst (λ (z : Option ℕ). LeastIn m e rows o 0 (get_or cuts (k + 1) 0) z) (sym c.earlier-least.ensures)
          (joined m laws e rows fine o 0 (get_or cuts k 0) (get_or cuts (k + 1) 0) (omega arith) (runs.rises k six) (runs.inside (k + 1) (omega arith)) c.loop-k.least pick c.loop-k.invariant.1
          (run_least m laws e rows fine o cuts runs k six (get_or heads k 0) old h first pick c.least_ahead-pick.ensures)),
    )

pub returns-clause-going : goal.returns-clause-going
returns-clause-going g c = record { reached = c.requires.reached; known = c.requires.known; runs = c.requires.runs; gone = c.loop-k.invariant.0 }

pub returns-clause-least : goal.returns-clause-least
returns-clause-least g c =
    let front = c.args.self.now in
    let done : c.loop-k.k ≡ 6 = omega arith in
    let end : get_or front.cuts c.loop-k.k 0 ≡ length front.rows.now = ap (λ (z : ℕ). get_or front.cuts z 0) done ∙ c.requires.runs.ends in
    subst (λ (z : ℕ). LeastIn (meaning g.M.DelayMeasure front.measure.now) g.M.DelayMeasure.EMPTY front.rows.now front.after 0 z c.loop-k.least) end c.loop-k.invariant.1
