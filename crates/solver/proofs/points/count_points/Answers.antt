-- Each call takes one point of those to come.
use Rattle.std.proofs.Common.{◌≡◌, ℕ, List, length, Option, ap, ◌∙◌, inl, arith}
use Rattle.pricing.specs.Measures.{meaning}
use Rattle.frontier.specs.declared.records.Point.{Point}
use Rattle.solver.specs.declared.points.Front.{Front}
use Rattle.solver.specs.Front.{points_in, front, Gives}
use Rattle.solver.proofs.Bests.{front_short}
use Rattle.solver.proofs.Merges.{counted}
use Rattle.solver.proofs.points.count_points.Goals as goal

pub count-requires-clause-fits : goal.count-requires-clause-fits
count-requires-clause-fits g c =
    let f = c.args.runs in
    let short = front_short (meaning g.M.DelayMeasure f.measure.now) f.after f.rows.now in
    inl (omega arith)

pub returns : goal.returns
returns g c =
    let V = g.row.M-Value.Denot in
    let S = Front g.row.M.Denot V in
    let kind = g.M.DelayMeasure in
    let left : S → List (Point V) = λ s. front (meaning kind s.measure.now) s.after (points_in s.rows.now) in
    let steps : S → Option ℕ → S → Type 0 = λ s r t. (t.rows.now ≡ s.rows.now) × Gives kind.EMPTY s.rows.now (left s) r (left t) in
    let ran = c.count.ensures.ran in
    ran.2 ∙ counted (λ (s : S). length (left s)) steps (λ s x t st. ap length st.1.1) (λ s t st. ap length st.1) ran.0 c.args.runs ran.1
