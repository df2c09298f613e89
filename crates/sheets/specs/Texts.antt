-- The text of a sheet, line by line, and the line that names a fault. Assumes nothing.
use Rattle.std.specs.Prelude.{ℕ, List, [], ◌∷◌, ◌++◌, map, length, codes, decimal}
use Rattle.std.specs.List.{flat_map}
use Rattle.drawing.specs.declared.words.Grid.{Grid}
use Rattle.drawing.specs.declared.words.Wire.{Wire}
use Rattle.drawing.specs.Numbers.{number_of}
use Rattle.drawing.specs.Plans.{Plan}
use Rattle.text.specs.Lines.{line_of}
use Rattle.text.specs.Runs.{run_text}
use Rattle.sheets.specs.declared.faults.Fault.{Fault}
use Rattle.sheets.specs.Faults.{layer_number}

-- a wire's eight numbers, in the order of its line
abbrev pub numbers : Wire → List ℕ
numbers w = w.a ∷ w.b ∷ w.g ∷ w.d ∷ w.e ∷ w.k ∷ w.h ∷ w.t ∷ []

-- the fields of a head, of a wire line and of an end line
abbrev pub head_fields : Grid → ℕ → List (List ℕ)
head_fields grid channel = codes "sheet" ∷ decimal channel ∷ run_text grid.widths ∷ run_text grid.spaces ∷ []

abbrev pub wire_fields : Wire → List (List ℕ)
wire_fields w = codes "wire" ∷ map decimal (numbers w)

abbrev pub end_fields : ℕ → List (List ℕ)
end_fields n = codes "end" ∷ decimal n ∷ []

-- the head line: channel, widths and spaces
unfoldable pub head_text : Grid → ℕ → List ℕ
head_text grid channel = line_of (head_fields grid channel)

-- a wire line: its eight numbers
unfoldable pub wire_text : Wire → List ℕ
wire_text w = line_of (wire_fields w)

-- the end line: the count of wires
unfoldable pub end_text : ℕ → List ℕ
end_text n = line_of (end_fields n)

-- a whole sheet: a head, a line for each wire and an end
abbrev pub sheet_text : Plan → List ℕ
sheet_text p = head_text p.grid p.channel ++ (flat_map wire_text p.wires ++ end_text (length p.wires))

-- the line that names a fault: number, layer, line and field
unfoldable pub refused_text : Fault → List ℕ
refused_text f =
    line_of (codes "refused" ∷ decimal (number_of f.why) ∷ decimal (layer_number f.layer) ∷ decimal f.line ∷ decimal f.field ∷ [])
