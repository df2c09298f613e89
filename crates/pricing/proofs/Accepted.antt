-- What is known of an allocation that is not refused. Assumes nothing.
use Rattle.std.proofs.Common.{◌≡◌, ℕ, Bool, true, false, not, ◌&&◌, List, [], ◌∷◌, Ok, Err, sym, refl, subst, arith}
use Rattle.std.proofs.lemmas.Bool.{and_parts, eqb-true}
use Rattle.drawing.specs.declared.drawings.Drawing.{Drawing}
use Rattle.drawing.specs.declared.refusals.Refusal.{Refusal}
use Rattle.drawing.specs.declared.refusals.Refusal.TheVariants.{WrongCount, StepOutsideGrid, TripleBarred, AboveChannel}
use Rattle.drawing.specs.declared.words.Wire.{Wire}
use Rattle.drawing.specs.Edits.{Reply, first_reason, unless_refused}
use Rattle.drawing.specs.Plans.{Plan, Sound}
use Rattle.drawing.specs.Shown.{plan_of}
use Rattle.drawing.proofs.Sounds.{sound_of}
use Rattle.rules.specs.Steps.{step}
use Rattle.pricing.specs.Allocations.{Allocation, Book, used_width, is_step_of, counted, in_grid, admitted, within_channel, lawful}
use Rattle.pricing.specs.Measures.{Measure}
use Rattle.pricing.specs.Prices.{price_of}
use Rattle.pricing.specs.Ready.{Ready}
use Rattle.pricing.specs.Replies.{price_reasons, priced}
use Rattle.pricing.proofs.Lists.{all_since}
use Rattle.pricing.proofs.Steps.{step_from}

-- a refusal is no acceptance
never : {P : Type 0} (why : Refusal) → ◌≡◌ {A = Reply} (Err why) (Ok tt) → P
never why e = let z : ◌≡◌ {A = ℕ} 0 1 = cc in absurd (omega arith)

-- a value that was not refused is the one handed in
pub unrefused : {X : Type 0} (reply : Reply) (x y : X) → Ok y ≡ unless_refused reply x → (reply ≡ Ok tt) × (y ≡ x)
unrefused (Ok u) x y e = (refl, (cc))
unrefused (Err why) x y e = let z : ◌≡◌ {A = ℕ} 0 1 = cc in absurd (omega arith)

-- what refuses one value refuses another
pub refused : {X Y : Type 0} (reply : Reply) (x : X) (y : Y) (why : Refusal) → Err why ≡ unless_refused reply x → Err why ≡ unless_refused reply y
refused (Ok u) x y why e = let z : ◌≡◌ {A = ℕ} 0 1 = cc in absurd (omega arith)
refused (Err other) x y why e = cc

-- where none of four tests refuses, all four hold
none_refuses : (a b c d : Bool) (i j k l : Refusal)
    → first_reason ((not a, i) ∷ (not b, j) ∷ (not c, k) ∷ (not d, l) ∷ []) ≡ Ok tt → a && (b && (c && d)) ≡ true
none_refuses true true true true i j k l e = refl
none_refuses true true true false i j k l e = never l e
none_refuses true true false d i j k l e = never k e
none_refuses true false c d i j k l e = never j e
none_refuses false b c d i j k l e = never i e

-- an allocation that nothing refuses is lawful
pub accepted : (book : Book) (p : Plan) (x : Allocation) → first_reason (price_reasons book p x) ≡ Ok tt → lawful book p x ≡ true
accepted book p x ok =
    none_refuses (counted p x) (in_grid p x) (admitted book p x) (within_channel p x) WrongCount StepOutsideGrid TripleBarred AboveChannel ok

-- an allocation of a sound plan that is counted and in the grid can be summed over
pub ready_in_grid : (p : Plan) (x : Allocation) → Sound p → counted p x ≡ true → in_grid p x ≡ true → Ready p.wires x
ready_in_grid p x s is_counted is_in_grid =
    let count = and_parts _ _ is_counted in
    let grid = and_parts _ _ is_in_grid in
    record {
      few = s.few;
      limited = s.limited;
      wide = eqb-true _ _ count.0;
      apart = eqb-true _ _ count.1;
      width_steps = all_since (is_step_of p.grid.widths) step (step_from p.grid.widths) x.widths grid.0;
      space_steps = all_since (is_step_of p.grid.spaces) step (step_from p.grid.spaces) x.spaces grid.1;
    }

-- a lawful allocation of a sound plan can be summed over
pub ready : (book : Book) (p : Plan) (x : Allocation) → Sound p → lawful book p x ≡ true → Ready p.wires x
ready book p x s ok =
    let parts = and_parts (counted p x) (in_grid p x && (admitted book p x && within_channel p x)) ok in
    let others = and_parts (in_grid p x) (admitted book p x && within_channel p x) parts.1 in
    ready_in_grid p x s parts.0 others.0

-- an allocation of a drawing that was not refused can be summed over
pub ready_after : (book : Book) (d : Drawing) (x : Allocation) (u : ℕ)
    → Ok u ≡ unless_refused (first_reason (price_reasons book (plan_of d) x)) (used_width x)
    → (qs : List Wire) → qs ≡ (plan_of d).wires → Ready qs x
ready_after book d x u e qs same =
    let p = plan_of d in
    let ok = (unrefused (first_reason (price_reasons book p x)) (used_width x) u e).0 in
    subst (λ (z : List Wire). Ready z x) (sym same) (ready book p x (sound_of d) (accepted book p x ok))

-- a lawful allocation has a price
pub priced_lawful : {V : Type 0} (m : Measure V) (book : Book) (p : Plan) (x : Allocation) → lawful book p x ≡ true
    → priced m book p x ≡ Ok (price_of m p.wires x)
priced_lawful m book p x ok =
    let count = and_parts (counted p x) (in_grid p x && (admitted book p x && within_channel p x)) ok in
    let grid = and_parts (in_grid p x) (admitted book p x && within_channel p x) count.1 in
    let rules = and_parts (admitted book p x) (within_channel p x) grid.1 in
    let reply : Bool → Bool → Bool → Bool → Reply =
    λ a b c d. first_reason ((not a, WrongCount) ∷ (not b, StepOutsideGrid) ∷ (not c, TripleBarred) ∷ (not d, AboveChannel) ∷ []) in
    λ t. unless_refused (reply (count.0 t) (grid.0 t) (rules.0 t) (rules.1 t)) (price_of m p.wires x)
