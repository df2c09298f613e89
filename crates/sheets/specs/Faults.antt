-- What is wrong with a sheet, and where. Assumes nothing.
use Rattle.std.specs.Prelude.{ℕ, ◌+◌, cond, ◌==◌}
use Rattle.std.specs.Option.{unwrap_or}
use Rattle.drawing.specs.declared.refusals.Refusal.{Refusal}
use Rattle.drawing.specs.declared.refusals.Refusal.TheVariants.{BadField, BadLine, WordNotDue, WrongEndCount}
use Rattle.drawing.specs.declared.words.Wire.{Wire}
use Rattle.drawing.specs.Numbers.{number_of}
use Rattle.drawing.specs.Plans.{first_excess}
use Rattle.sheets.specs.declared.faults.Fault.{Fault}
use Rattle.sheets.specs.declared.faults.Layer.{Layer}
use Rattle.sheets.specs.declared.faults.Layer.TheVariants.{Field, Line, Bundle, Call}

-- the number of each layer that can refuse
abbrev pub layer_number : Layer → ℕ
layer_number Field = 1
layer_number Line = 2
layer_number Bundle = 3
layer_number Call = 4

-- a field that is not the number or the run that is due
abbrev pub field_fault : ℕ → ℕ → Fault
field_fault line place = record { why = BadField; layer = Field; line = line; field = place }

-- a wrong count of fields, or a line that lacks its line end
abbrev pub line_fault : ℕ → Fault
line_fault line = record { why = BadLine; layer = Line; line = line; field = 0 }

-- a first field that is no word due here, a due line that is missing, or bytes after the end line
abbrev pub word_fault : ℕ → Fault
word_fault line = record { why = WordNotDue; layer = Line; line = line; field = 1 }

-- an end line whose count is not the number of wires
abbrev pub count_fault : ℕ → Fault
count_fault line = record { why = WrongEndCount; layer = Line; line = line; field = 0 }

-- a drawing that the line would break, at a field or, for the whole line, at 0
abbrev pub bundle_fault : ℕ → Refusal → ℕ → Fault
bundle_fault line why place = record { why = why; layer = Bundle; line = line; field = place }

-- a refusal of a call on the drawing that was read
abbrev pub call_fault : Refusal → Fault
call_fault why = record { why = why; layer = Call; line = 0; field = 0 }

-- the field of a head that a refusal names: 15 names the channel, the others the whole line
abbrev pub head_field : Refusal → ℕ
head_field why = cond (number_of why == 15) 2 0

-- the field of a wire line that a refusal names: 12 names the first number above its limit, the others the whole line
abbrev pub wire_field : Wire → Refusal → ℕ
wire_field wire why = cond (number_of why == 12) (unwrap_or (first_excess wire) 0 + 2) 0
