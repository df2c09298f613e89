-- Exactly the sheets that drawings write are accepted. Assumes nothing.
use Rattle.std.specs.Prelude.{◌≡◌, ℕ, ◌-◌, ◌≤◌, List, map, Ok, Err, Result, ◌≢◌}
use Rattle.drawing.specs.declared.drawings.Drawing.{Drawing}
use Rattle.drawing.specs.Plans.{Plan, Sound}
use Rattle.drawing.specs.Shown.{plan_of}
use Rattle.drawing.specs.Steps.{steps}
use Rattle.text.specs.Runs.{run_text}
use Rattle.sheets.specs.declared.faults.Fault.{Fault}
use Rattle.sheets.specs.Texts.{sheet_text}
use Rattle.sheets.specs.Reads.{read_sheet}

-- the written sheet of a drawing is read as that drawing
abbrev pub ReadsBack : Plan → Type 0
ReadsBack p = read_sheet (sheet_text p) ≡ Ok p

-- accepted, the bytes are what the drawing writes; refused, they are what no drawing writes
abbrev pub Exactly : Result Drawing Fault → List ℕ → Type 0
Exactly (Ok d) bytes = sheet_text (plan_of d) ≡ bytes
Exactly (Err f) bytes = (p : Plan) → Sound p → sheet_text p ≢ bytes

-- the digits of a run are the steps that its byte allows
abbrev pub RunsAreSteps : Type 0
RunsAreSteps = (byte : ℕ) → byte ≤ 63 → map (λ c. c - 48) (run_text byte) ≡ steps byte
