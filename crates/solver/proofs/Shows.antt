-- What is written is the curve, and the witnesses are lawful. Assumes nothing.
use Rattle.std.proofs.Common.{◌≡◌, ℕ, suc, ◌-◌, ◌<◌, ◌++◌, length, get_or, take, drop, replicate, None, ap, ◌∙◌, arith, take_all}
use Rattle.measures.specs.Laws.{Laws}
use Rattle.pricing.specs.Measures.{Measure}
use Rattle.frontier.specs.Curves.{curve}
use Rattle.solver.specs.Front.{points_in, front}
use Rattle.solver.specs.Trail.{path_to}
use Rattle.frontier.specs.Orders.{blank_point}
use Rattle.solver.specs.Written.{FilledShown}
use Rattle.solver.proofs.RowsCurve.{rows_curve}
use Rattle.solver.proofs.Trails.{witnessed, chained_linked}

-- what is written of a chained table is the curve, with lawful witnesses
pub filled_shown : {V : Type 0} (m : Measure V) {reach : ℕ → V → Type 0} (laws : Laws m.empty m.made m.joined m.below reach) (e : V) → FilledShown m e
filled_shown {V} m laws e book d ok table cut chain ends row n slots room points strip count f =
    let k = length d.wires in
    let first = cut k in
    let F = front m None (points_in (drop first table)) in
    let C = curve m book d in
    let same : F ≡ C = (rows_curve m laws book d ok (drop first table) row).0 in
    let whole : take n F ≡ C = take_all n F (omega arith) ∙ same in
    record {
      count = count ∙ ap length same;
      on_curve = f.on_curve ∙ ap (λ z. z ++ replicate (slots - n) (blank_point e)) whole;
      long = f.long;
      witness = λ i h.
          let w = f.witness i h in
          let s = w.slot in
          let inside : s < cut (suc k) = let t = w.to in omega arith in
          let l = chained_linked m book d e table cut k chain k s (omega arith) w.from inside in
          let t = witnessed m book d e table s l in
          (path_to e table k s, t.0, t.1 ∙ w.priced ∙ ap (λ z. get_or z i (blank_point e)) same, w.bytes);
      rest_blank = f.rest_blank;
    }
