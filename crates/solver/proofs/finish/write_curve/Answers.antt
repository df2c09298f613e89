-- One point and its witness more.
use Rattle.std.proofs.Common.{◌≡◌, ℕ, ◌+◌, ◌<◌, ◌≤◌, List, ◌∷◌, length, set, replicate, sym, ap, ◌∙◌, subst, add-one, arith, rules}
use borrow.Author.Rules.{scaled_Fits}
use lib.ListN.{length-replicate}
use Rattle.pricing.specs.Measures.{meaning}
use Rattle.frontier.specs.declared.records.Point.{Point}
use Rattle.frontier.specs.declared.records.State.{State}
use Rattle.frontier.specs.Orders.{blank_point}
use Rattle.solver.specs.declared.points.Front.{Front}
use Rattle.solver.specs.Front.{row_at, point_in, points_in, front, Going}
use Rattle.solver.specs.Written.{Filled}
use Rattle.solver.proofs.Fills.{drop_head, drop_none, fill_start, fill_more, slot_in, slot_same}
use Rattle.solver.proofs.finish.write_curve.Goals as goal

pub loop-row-init : goal.loop-row-init
loop-row-init g c =
    let V = g.row.M-Value.Denot in
    let S = Front g.row.M.Denot V in
    let kind = g.M.DelayMeasure in
    let e = kind.EMPTY in
    let it = c.args.runs in
    let F = front (meaning kind it.measure.now) it.after (points_in it.rows.now) in
    let q : c.into_iter-row-iterator.result ≡ it = c.into_iter-row-iterator.ensures.into_iter_gives in
    let ps = c.blank_all.new.list in
    let st = c.fill.new.self in
    let blank = c.fill.ensures.after (λ y h. h) in
    let ep : length ps ≡ length c.args.points.now = ap length c.blank_all.ensures ∙ length-replicate (length c.args.points.now) (blank_point e) in
    let es : length st ≡ length c.args.strip.now = ap length blank ∙ length-replicate (length c.args.strip.now) 0 in
    let p : ps ≡ replicate (length ps) (blank_point e) = c.blank_all.ensures ∙ ap (λ k. replicate k (blank_point e)) (sym ep) in
    let s : st ≡ replicate (length st) 0 = blank ∙ ap (λ k. replicate k 0) (sym es) in (
      subst (λ (z : S). Going (meaning kind z.measure.now) e z.rows.now (kind.reach z.measure.now) z.cuts z.heads z.after) (sym q) c.requires.going,
      tt,
      ap (λ (z : S). z.rows.now) q,
      sym (ap (λ (z : S). front (meaning kind z.measure.now) z.after (points_in z.rows.now)) q),
      subst (λ (z : List (Point V)). Filled e c.args.table.now c.args.first c.args.wires F 0 (length ps) (length st) z st) (sym p)
          (subst (λ (z : List ℕ). Filled e c.args.table.now c.args.first c.args.wires F 0 (length ps) (length st) (replicate (length ps) (blank_point e)) z) (sym s)
          (fill_start e c.args.table.now c.args.first c.args.wires F (length ps) (length st))),
    )

pub overflow_add-slot : goal.overflow_add-slot
overflow_add-slot g c =
    let rows = c.args.runs.rows.now in
    let h : c.in-Some.row < length rows = subst (λ (z : List (State g.row.M-Value.Denot)). c.in-Some.row < length z) c.loop-row.invariant.2 c.in-Some.ensures.steps.1.0 in
    let i = slot_in g.M.DelayMeasure.EMPTY c.args.table.now rows c.args.first c.in-Some.row c.requires.part h in
    omega arith

pub price_at-requires : goal.price_at-requires
price_at-requires g c =
    let rows = c.args.runs.rows.now in
    let h : c.in-Some.row < length rows = subst (λ (z : List (State g.row.M-Value.Denot)). c.in-Some.row < length z) c.loop-row.invariant.2 c.in-Some.ensures.steps.1.0 in
    slot_in g.M.DelayMeasure.EMPTY c.args.table.now rows c.args.first c.in-Some.row c.requires.part h

pub offset_bounds-points-n : goal.offset_bounds-points-n
offset_bounds-points-n g c =
    let F = front (meaning g.M.DelayMeasure c.args.runs.measure.now) c.args.runs.after (points_in c.args.runs.rows.now) in
    let d = drop_head (blank_point g.M.DelayMeasure.EMPTY) F c.loop-row.n _ _ (c.loop-row.invariant.3 ∙ c.in-Some.ensures.steps.1.1) in
    let lt : c.loop-row.n < length F = d.0 in
    let sl = c.requires.slots in
    let in_points : c.loop-row.n < length c.loop-row.points = omega arith in
    scaled_Fits _ (length c.loop-row.points) _ in_points (search rules)

pub loop-row-preserved : goal.loop-row-preserved
loop-row-preserved g c =
    let V = g.row.M-Value.Denot in
    let kind = g.M.DelayMeasure in
    let e = kind.EMPTY in
    let table = c.args.table.now in
    let rows = c.args.runs.rows.now in
    let F = front (meaning kind c.args.runs.measure.now) c.args.runs.after (points_in rows) in
    let n = c.loop-row.n in
    let r = c.in-Some.row in
    let first = c.args.first in
    let inv = c.loop-row.invariant in
    let st = c.in-Some.ensures.steps in
    let now = c.next.new.self in
    let left = front (meaning kind now.measure.now) now.after (points_in now.rows.now) in
    let h : r < length rows = subst (λ (z : List (State V)). r < length z) inv.2 st.1.0 in
    let P = point_in (row_at e rows r) in
    let d = drop_head (blank_point e) F n P left (inv.3 ∙ st.1.1 ∙ ap (λ (z : List (State V)). point_in (row_at e z r) ∷ left) inv.2) in
    let i = slot_in e table rows first r c.requires.part h in
    let same = slot_same e table rows first r c.requires.part h in
    let wrote : set c.loop-row.points n P ≡ set c.loop-row.points n c.price_at.result = ap (λ (z : Point V). set c.loop-row.points n z) (sym (c.price_at.ensures ∙ ap point_in same)) in
    let ps = length c.blank_all.new.list in
    let ss = length c.fill.new.self in
    let ep : ps ≡ length c.args.points.now = ap length c.blank_all.ensures ∙ length-replicate (length c.args.points.now) (blank_point e) in
    let es = c.fill.ensures.len in
    let sl = c.requires.slots in
    let ro = c.requires.room in (
      c.in-Some.ensures.goes.keeps,
      tt,
      st.0 ∙ inv.2,
      rw add-one d.2,
      subst (λ (z : List (Point V)). Filled e table first c.args.wires F (n + 1) ps ss z c.write_witness.new.strip) wrote
          (fill_more e table first c.args.wires F ps ss n c.loop-row.points c.loop-row.strip c.write_witness.new.strip inv.4 P d.0 d.1 (omega arith) (omega arith) c.requires.few
          (first + r) (omega arith) i (ap point_in same) c.write_witness.ensures c.write_witness.auto.strip),
    )

pub returns-clause-count : goal.returns-clause-count
returns-clause-count g c =
    let F = front (meaning g.M.DelayMeasure c.args.runs.measure.now) c.args.runs.after (points_in c.args.runs.rows.now) in
    let none : length F ≤ c.loop-row.n = drop_none F c.loop-row.n (c.loop-row.invariant.3 ∙ c.in-None.ensures.steps.1) in
    let within = c.loop-row.invariant.4.within in
    omega arith
