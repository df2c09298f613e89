-- A grid byte as a set of steps. Assumes nothing.
use Rattle.std.specs.Prelude.{ℕ, ◌-◌, ◌/◌, ◌%◌, ◌^◌, Bool, List, [], ◌∷◌, ◌==◌}
use Rattle.drawing.specs.Lists.{keep, least}

-- the whole numbers that can be a step
abbrev pub all_steps : List ℕ
all_steps = 1 ∷ 2 ∷ 3 ∷ 4 ∷ 5 ∷ 6 ∷ []

-- a byte has bit 0 for step 1 up to bit 5 for step 6
abbrev pub has_step : ℕ → ℕ → Bool
has_step byte step = byte / 2 ^ (step - 1) % 2 == 1

-- the steps that a byte allows
abbrev pub steps : ℕ → List ℕ
steps byte = keep (has_step byte) all_steps

-- the smallest step that a byte allows
abbrev pub smallest : ℕ → ℕ
smallest byte = least (steps byte)
