-- The least row ahead is the next point.
use Rattle.std.proofs.Common.{◌≡◌, ℕ, ◌<◌, List, ◌∷◌, length, Some, Option, sym, ap, ◌∙◌, subst, arith}
use Rattle.pricing.specs.Measures.{meaning}
use Rattle.frontier.specs.declared.records.Point.{Point}
use Rattle.frontier.specs.declared.records.State.{State}
use Rattle.solver.specs.Front.{row_at, point_in, points_in, front, Going, Gives}
use Rattle.solver.proofs.Bests.{next_none}
use Rattle.solver.proofs.Merges.{taken}
use Rattle.solver.proofs.points.FrontIterator.next.Goals as goal

pub returns-in_err-row-clause-steps : goal.returns-in_err-row-clause-steps
returns-in_err-row-clause-steps g c =
    let was = c.args.self.now in
    let m = meaning g.M.DelayMeasure was.measure.now in
    let e = g.M.DelayMeasure.EMPTY in
    let rows = was.rows.now in
    let none = next_none m (g.met.M.DelayMeasure.lawful was.measure.now) e rows c.requires.reached was.after c.requires.known c.in_err-row.ensures.least in
    (c.in_err-row.ensures.rows, subst (λ (z : Option ℕ). Gives e rows (front m was.after (points_in rows)) z (front (meaning g.M.DelayMeasure c.least.new.self.measure.now) c.least.new.self.after (points_in c.least.new.self.rows.now))) (sym c.from_residual.ensures) none)

-- what is so of the row as it was read is so of it as it is left
pub returns-clause-steps : goal.returns-clause-steps
returns-clause-steps g c =
    let V = g.row.M-Value.Denot in
    let was = c.args.self.now in
    let kind = g.M.DelayMeasure in
    let e = kind.EMPTY in
    let rows = was.rows.now in
    let o = was.after in
    let r = c.in_ok-row.row in
    let left = c.in_ok-row.ensures in
    let t = taken (meaning kind was.measure.now) (g.met.M.DelayMeasure.lawful was.measure.now) e rows c.least.new.self.cuts c.least.new.self.heads o left.going r left.least in
    let F : g.row.M.Denot → List (State V) → V → Type 0 = λ n z v. front (meaning kind was.measure.now) o (points_in rows) ≡ point_in (row_at e rows r) ∷ front (meaning kind n) (Some v) (points_in z) in
    let price : (row_at e rows r).delay ≡ c.price_at.result.delay = sym (ap (λ (p : Point V). p.delay) (c.price_at.ensures ∙ ap (λ (z : List (State V)). point_in (row_at e z r)) left.rows)) in (
      left.rows,
      (
        left.least.high,
        subst (λ (n : g.row.M.Denot). F n c.least.new.self.rows.now c.price_at.result.delay) (sym left.measure)
            (subst (λ (z : List (State V)). F was.measure.now z c.price_at.result.delay) (sym left.rows) (subst (λ (v : V). F was.measure.now rows v) price t.1)),
      ),
    )

pub returns-clause-goes : goal.returns-clause-goes
returns-clause-goes g c =
    let V = g.row.M-Value.Denot in
    let was = c.args.self.now in
    let kind = g.M.DelayMeasure in
    let e = kind.EMPTY in
    let rows = was.rows.now in
    let o = was.after in
    let r = c.in_ok-row.row in
    let left = c.in_ok-row.ensures in
    let now = c.least.new.self in
    let t = taken (meaning kind was.measure.now) (g.met.M.DelayMeasure.lawful was.measure.now) e rows now.cuts now.heads o left.going r left.least in
    let fewer : length (front (meaning kind was.measure.now) (Some (row_at e rows r).delay) (points_in rows)) < length (front (meaning kind was.measure.now) o (points_in rows)) = let l = ap length t.1 in omega arith in
    let F : g.row.M.Denot → List (State V) → V → Type 0 =
    λ n z v. Going (meaning kind n) e z (kind.reach n) now.cuts now.heads (Some v) × (length (front (meaning kind n) (Some v) (points_in z)) < length (front (meaning kind was.measure.now) o (points_in rows))) in
    let price : (row_at e rows r).delay ≡ c.price_at.result.delay = sym (ap (λ (p : Point V). p.delay) (c.price_at.ensures ∙ ap (λ (z : List (State V)). point_in (row_at e z r)) left.rows)) in
    let both : F now.measure.now now.rows.now c.price_at.result.delay = subst (λ (n : g.row.M.Denot). F n now.rows.now c.price_at.result.delay) (sym left.measure)
    (subst (λ (z : List (State V)). F was.measure.now z c.price_at.result.delay) (sym left.rows) (subst (λ (v : V). F was.measure.now rows v) price (t.0, fewer))) in
    record { on = λ f. (both.0, tt, both.1); keeps = both.0; rests = λ f. tt }
