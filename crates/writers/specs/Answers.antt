-- What checking a sheet answers. Assumes nothing.
use Rattle.std.specs.Prelude.{ℕ, List, take, Ok, Err, Result}
use Rattle.drawing.specs.Plans.{Plan}
use Rattle.writers.specs.declared.answers.Answer.{Answer}
use Rattle.sheets.specs.declared.faults.Fault.{Fault}
use Rattle.sheets.specs.Texts.{sheet_text, refused_text}
use Rattle.sheets.specs.Reads.{read_sheet}

-- what an answer says
abbrev pub answer_bytes : Answer → List ℕ
answer_bytes a = take a.len a.bytes

-- the text of a drawing's sheet, or the line that names the fault
abbrev pub answer_text : Result Plan Fault → List ℕ
answer_text (Ok p) = sheet_text p
answer_text (Err f) = refused_text f

-- the answer to a sheet: the sheet again, or its first fault
abbrev pub checked_text : List ℕ → List ℕ
checked_text bytes = answer_text (read_sheet bytes)
