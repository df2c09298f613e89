-- What the program prints. Assumes nothing.
use Rattle.std.specs.Prelude.{ℕ, List, [], ◌∷◌, ◌++◌, Some, None, Ok, Err, codes, Option, Result}
use Rattle.drawing.specs.Plans.{Plan}
use Rattle.sheets.specs.declared.faults.Fault.{Fault}
use Rattle.sheets.specs.Reads.{read_sheet}
use Rattle.sheets.specs.Texts.{refused_text}
use Rattle.quotes.specs.Asked.{Asked, asked}
use Rattle.quotes.specs.Quotes.{quote_by}

-- the line for arguments that ask for nothing
abbrev pub usage_text : List ℕ
usage_text = codes "usage: price WIDTHS SPACES [total|worst|late], a digit for each width and space" ++ (10 ∷ [])

-- the answer to a request: the price, or the line that names the fault of the sheet or the refusal of the price
abbrev pub answered : Asked → Result Plan Fault → List ℕ
answered q (Ok p) = quote_by q.by p (record { widths = q.wide; spaces = q.apart })
answered q (Err f) = refused_text f

-- the answer to a sheet and what was asked of it
abbrev pub answer_to : Option Asked → List ℕ → List ℕ
answer_to None sheet = usage_text
answer_to (Some q) sheet = answered q (read_sheet sheet)

-- the answer to a sheet and a program's arguments
abbrev pub quote_text : List ℕ → List (List ℕ) → List ℕ
quote_text sheet words = answer_to (asked words) sheet
