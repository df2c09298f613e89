-- The kept states of the last stage give the curve. Assumes nothing.
use Rattle.std.proofs.Common.{◌≡◌, ℕ, true, List, [], ◌∷◌, map, length, None, sym, refl, ap, ◌∙◌, subst}
use Rattle.drawing.specs.Lists.{keep}
use Rattle.measures.specs.Laws.{Laws}
use Rattle.pricing.specs.Measures.{Measure}
use Rattle.frontier.specs.declared.records.Point.{Point}
use Rattle.frontier.specs.declared.records.State.{State}
use Rattle.frontier.specs.Lists.{◌∈◌, undominated}
use Rattle.frontier.specs.Points.{at_or_below}
use Rattle.frontier.specs.States.{kept_of}
use Rattle.frontier.specs.Stages.{point_at}
use Rattle.frontier.proofs.Members.{map_in, map_make}
use Rattle.frontier.proofs.Sorted.{rising_in, rising_make}
use Rattle.frontier.proofs.Allocations.{states_make}
use Rattle.frontier.proofs.Reach.{limited_wires, state_reach}
use Rattle.frontier.proofs.Ends.{row_last_holds}
use Rattle.solver.specs.Front.{point_in, points_in, still_ahead, front, RowsCurve}
use Rattle.solver.proofs.FrontSteps.{front_rises}

-- a test that all pass keeps all
keep_all : {A : Type 0} (xs : List A) → keep (λ x. true) xs ≡ xs
keep_all [] = refl
keep_all (x ∷ xs) = ap (λ ys. x ∷ ys) (keep_all xs)

-- the points of the states are those of the rows
same_points : {V : Type 0} (rows : List (State V)) → map point_at (map kept_of rows) ≡ points_in rows
same_points [] = refl
same_points (s ∷ rows) = ap (λ ps. point_in s ∷ ps) (same_points rows)

-- what is taken from the kept states is the curve
pub rows_curve : {V : Type 0} (m : Measure V) {reach : ℕ → V → Type 0} (laws : Laws m.empty m.made m.joined m.below reach) → RowsCurve m reach
rows_curve {V} m {reach} laws book d ok rows row =
    let ps = points_in rows in
    let wires = limited_wires d ok in
    let good : (p : Point V) → p ∈ points_in rows → reach (length d.wires) p.delay = λ p i.
    let a = map_in point_in rows i in
    let k = (row.exactly (kept_of a.0)).0 (map_make kept_of a.1 refl) in
    let r = state_reach m laws book d wires (kept_of a.0) (states_make m book d k.of k.lawful_one (sym k.at)) in
    subst (λ (z : Point V). reach (length d.wires) z.delay) (sym a.2) r in
    let whole : still_ahead m None ps ≡ map point_at (map kept_of rows) = keep_all ps ∙ sym (same_points rows) in (
      row_last_holds m laws book d wires (map kept_of rows) row (front m None ps) (front_rises m laws (length d.wires) ok.few ps good None)
          (λ p. (
            (λ i. subst (λ (zs : List (Point V)). p ∈ undominated (at_or_below m) zs) whole (rising_in (λ p. p.power) (undominated (at_or_below m) (still_ahead m None ps)) i)),
            λ i. rising_make (λ p. p.power) (subst (λ (zs : List (Point V)). p ∈ undominated (at_or_below m) zs) (sym whole) i),
          )),
      (length d.wires, ok.few, good),
    )
