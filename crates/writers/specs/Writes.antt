-- What the writers of a sheet reply and leave. Assumes nothing.
use Rattle.std.specs.Prelude.{◌≡◌, ℕ, ◌+◌, Bool, cond, List, [], ◌∷◌, ◌++◌, length, replicate, Ok, Err, Result, nat_le, nat_lt}
use Rattle.drawing.specs.declared.refusals.Refusal.{Refusal}
use Rattle.drawing.specs.declared.refusals.Refusal.TheVariants.{NumberAboveLimit, BundleFull, TooNarrow, TextTooShort}
use Rattle.drawing.specs.declared.words.Grid.{Grid}
use Rattle.drawing.specs.declared.words.Wire.{Wire}
use Rattle.drawing.specs.Plans.{over_limit, too_narrow}
use Rattle.drawing.specs.Edits.{first_reason, unless_refused, open_reasons}
use Rattle.text.specs.Lines.{placed}
use Rattle.writers.specs.declared.states.Refused.{Refused}
use Rattle.sheets.specs.Texts.{head_text, wire_text, end_text}

-- ---- line by line
-- a line that does not fit a buffer of `room` bytes behind a text of `at` bytes
abbrev pub too_short : ℕ → ℕ → List ℕ → Bool
too_short room at line = nat_lt room (at + length line)

-- what refuses a head, in order
abbrev pub head_reasons : Grid → ℕ → ℕ → ℕ → List (Bool × Refusal)
head_reasons grid channel at room = open_reasons grid channel ++ (too_short room at (head_text grid channel), TextTooShort) ∷ []

-- what refuses a wire line behind a head and n wire lines, in order
abbrev pub wire_reasons : Grid → ℕ → ℕ → Wire → ℕ → ℕ → List (Bool × Refusal)
wire_reasons grid channel n wire at room =
    (over_limit wire, NumberAboveLimit)
    ∷ (nat_le 24 n, BundleFull)
    ∷ (too_narrow grid channel (n + 1), TooNarrow)
    ∷ (too_short room at (wire_text wire), TextTooShort)
    ∷ []

-- what refuses the end line behind n wire lines
abbrev pub end_reasons : ℕ → ℕ → ℕ → List (Bool × Refusal)
end_reasons n at room = (too_short room at (end_text n), TextTooShort) ∷ []

-- what a call for a line gives and leaves: accepted, the next state, and the line's bytes at the text's end, nothing else changed; refused, the
-- same state with the first reason, and the buffer as it was
abbrev pub Adds : {S N : Type 0} → List (Bool × Refusal) → Result N (Refused S) → S → (N → Type 0) → List ℕ → ℕ → List ℕ → List ℕ → Type 0
Adds reasons (Ok next) state Next line at was became = (first_reason reasons ≡ Ok tt) × Next next × (became ≡ placed was at line)
Adds reasons (Err x) state Next line at was became = (first_reason reasons ≡ Err x.why) × (x.sheet ≡ state) × (became ≡ was)

-- ---- a whole text
-- the reply of a call that writes a whole text: its length, or that the buffer is too short
abbrev pub whole_reply : List ℕ → ℕ → Result ℕ Refusal
whole_reply whole room = unless_refused (first_reason ((too_short room 0 whole, TextTooShort) ∷ [])) (length whole)

-- what the buffer then holds: the text, and no byte past it changed; or noughts
abbrev pub whole_left : List ℕ → List ℕ → List ℕ
whole_left whole was = cond (too_short (length was) 0 whole) (replicate (length was) 0) (placed was 0 whole)
