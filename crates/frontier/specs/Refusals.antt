-- What refuses a solve. Assumes nothing.
use Rattle.std.specs.Prelude.{ℕ, ◌*◌, Bool, true, false, ◌||◌, List, [], ◌∷◌, length, nat_lt}
use Rattle.drawing.specs.declared.refusals.Refusal.{Refusal}
use Rattle.drawing.specs.declared.refusals.Refusal.TheVariants.{NoWires, NothingFits, TooFewStates, TooFewPoints}
use Rattle.drawing.specs.Edits.{Reply, first_reason}
use Rattle.drawing.specs.Plans.{Plan}
use Rattle.pricing.specs.Allocations.{Book}
use Rattle.pricing.specs.Measures.{Measure}
use Rattle.frontier.specs.Points.{prices}
use Rattle.frontier.specs.Curves.{curve}
use Rattle.frontier.specs.States.{kept_states}

-- a list has nothing in it
abbrev pub none_of : {A : Type 0} → List A → Bool
none_of [] = true
none_of (x ∷ xs) = false

module _ {V : Type 0} (m : Measure V) where
  -- what refuses a solve with so many slots for states and for points and a strip of so many bytes, in order: no wires, no lawful
  -- allocation, more kept states than slots, and a curve that is longer than the slots for points or whose rows of 49 bytes are longer
  -- than the strip
  abbrev pub solve_reasons : Book → Plan → ℕ → ℕ → ℕ → List (Bool × Refusal)
  solve_reasons book d slots points strip =
      (none_of d.wires, NoWires)
      ∷ (none_of (prices m book d), NothingFits)
      ∷ (nat_lt slots (kept_states m book d), TooFewStates)
      ∷ (nat_lt points (length (curve m book d)) || nat_lt strip (49 * length (curve m book d)), TooFewPoints)
      ∷ []

  -- the reply to a solve
  abbrev pub solve_reply : Book → Plan → ℕ → ℕ → ℕ → Reply
  solve_reply book d slots points strip = first_reason (solve_reasons book d slots points strip)
