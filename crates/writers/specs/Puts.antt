-- Putting a text into a buffer, and writing a sheet of no wires line by line. Assumes nothing.
use Rattle.std.specs.Prelude.{◌≡◌, ℕ, ◌+◌, ◌<◌, ◌≤◌, Bool, cond, List, [], ◌++◌, length, is_ok, Some, None, Ok, Err, Option, Result}
use Rattle.drawing.specs.declared.refusals.Refusal.{Refusal}
use Rattle.drawing.specs.declared.words.Grid.{Grid}
use Rattle.drawing.specs.Edits.{first_reason, unless_refused, bare}
use Rattle.text.specs.Lines.{placed}
use Rattle.writers.specs.declared.states.Ended.{Ended}
use Rattle.sheets.specs.Texts.{head_text, sheet_text}
use Rattle.writers.specs.Writes.{head_reasons, end_reasons}

-- what putting a text at `at` gives and leaves: where the text ends, and no other byte changed; or that it does not fit, and then nothing is said of the buffer
abbrev pub Puts : Option ℕ → List ℕ → ℕ → List ℕ → List ℕ → Type 0
Puts (Some n) s at was became = (n ≡ at + length s) × (n ≤ length was) × (became ≡ placed was at s)
Puts None s at was became = length was < at + length s

-- ---- a sheet of no wires
-- what refuses its lines, in order
abbrev pub empty_reasons : Grid → ℕ → ℕ → List (Bool × Refusal)
empty_reasons grid channel room = head_reasons grid channel 0 room ++ end_reasons 0 (length (head_text grid channel)) room

-- the reply: the length of the whole text, or the first reason
abbrev pub empty_reply : Grid → ℕ → ℕ → Result ℕ Refusal
empty_reply grid channel room = unless_refused (first_reason (empty_reasons grid channel room)) (length (sheet_text (bare grid channel)))

-- the lines that are put: both, or those before the first that is refused
abbrev pub empty_lines : Grid → ℕ → ℕ → List ℕ
empty_lines grid channel room =
    cond (is_ok (first_reason (empty_reasons grid channel room))) (sheet_text (bare grid channel))
    (cond (is_ok (first_reason (head_reasons grid channel 0 room))) (head_text grid channel) [])

-- how long an ended sheet is, or why there is none
abbrev pub ended_len : Result Ended Refusal → Result ℕ Refusal
ended_len (Ok e) = Ok e.len
ended_len (Err why) = Err why
