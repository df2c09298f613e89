-- The first that passes the test.
use Rattle.std.proofs.Common.{◌≡◌, true, false, rules, tests}
use Rattle.std.proofs.lemmas.Iterator.{first_from_Range}
use Rattle.pricing.specs.Measures.{meaning}
use Rattle.solver.specs.Front.{row_at, ahead}
use Rattle.solver.proofs.Merges.{first_of}
use Rattle.solver.proofs.points.Front.first_ahead.Goals as goal

pub returns : goal.returns
returns g c =
    let front = c.args.self.now in
    let m = meaning g.M.DelayMeasure front.measure.now in
    let e = g.M.DelayMeasure.EMPTY in
    let rows = front.rows.now in
    let o = front.after in
    first_of m e rows o c.args.from c.args.to c.requires.low c.find.result
    (first_from_Range _ _ _ c.find.result (λ i. ahead m o (row_at e rows i).delay ≡ true) (λ i. ahead m o (row_at e rows i).delay ≡ false)
    c.find.ensures.ran (λ w q k. search (rules, tests)) (λ w q k. search (rules, tests)))
