-- What an answer without a fault says of the steps that gave it. Assumes nothing.
use Rattle.std.proofs.Common.{◌≡◌, ℕ, Bool, true, false, Some, None, Ok, Err, Option, Result, refl, arith}
use Rattle.drawing.specs.declared.refusals.Refusal.{Refusal}
use Rattle.drawing.specs.Edits.{Reply, unless_refused}
use Rattle.sheets.specs.declared.faults.Fault.{Fault}
use Rattle.sheets.specs.Reads.{and_then, refuse_if, or_fault, or_placed}

-- an answer is not refused and given at once
pub not_both : {X E : Type 0} (f : E) (x : X) → ◌≡◌ {A = Result X E} (Err f) (Ok x) → ⊥
not_both f x e = let z : ◌≡◌ {A = ℕ} 0 1 = cc in omega arith

-- what an answer gives is one
pub same_given : {X E : Type 0} (x y : X) → ◌≡◌ {A = Result X E} (Ok x) (Ok y) → x ≡ y
same_given x y e = cc

-- what was read first, and what was made of it
pub then_parts : {X Y : Type 0} (r : Result X Fault) (go : X → Result Y Fault) (y : Y) → and_then r go ≡ Ok y
    → (x : X) × (r ≡ Ok x) × (go x ≡ Ok y)
then_parts (Ok x) go y e = (x, refl, e)
then_parts (Err f) go y e = absurd (not_both f y e)

-- a test that did not refuse
pub test_parts : {X : Type 0} (b : Bool) (f : Fault) (go : Result X Fault) (x : X) → refuse_if b f go ≡ Ok x → (b ≡ false) × (go ≡ Ok x)
test_parts true f go x e = absurd (not_both f x e)
test_parts false f go x e = (refl, e)

-- what was there
pub fault_part : {X : Type 0} (o : Option X) (f : Fault) (x : X) → or_fault o f ≡ Ok x → o ≡ Some x
fault_part (Some z) f x e = cc
fault_part None f x e = absurd (not_both f x e)

-- what a drawing did not refuse
pub placed_part : {X : Type 0} (r : Result X Refusal) (place : Refusal → Fault) (x : X) → or_placed r place ≡ Ok x → r ≡ Ok x
placed_part (Ok z) place x e = cc
placed_part (Err why) place x e = absurd (not_both (place why) x e)

-- an accepted change, and what it gives
pub reply_parts : {X : Type 0} (r : Reply) (x y : X) → unless_refused r x ≡ Ok y → (r ≡ Ok tt) × (x ≡ y)
reply_parts (Ok u) x y e = (refl, cc)
reply_parts (Err why) x y e = absurd (not_both why y e)
