-- What the reader's own steps give, from what is still to be read. Assumes nothing.
use Rattle.std.specs.Prelude.{ℕ, List, Ok, Err, Result}
use Rattle.drawing.specs.declared.words.Wire.{Wire}
use Rattle.drawing.specs.declared.words.Grid.{Grid}
use Rattle.drawing.specs.Plans.{Plan}
use Rattle.text.specs.Cuts.{field_of}
use Rattle.text.specs.Numbers.{number_in}
use Rattle.text.specs.Runs.{run_in}
use Rattle.sheets.specs.declared.faults.Fault.{Fault}
use Rattle.sheets.specs.Faults.{field_fault}
use Rattle.sheets.specs.Places.{after_fields}
use Rattle.sheets.specs.Reads.{and_then, or_fault}

-- the number or the run at the front
abbrev pub number_front : ℕ → ℕ → List ℕ → Result ℕ Fault
number_front line place bs = or_fault (number_in (field_of bs)) (field_fault line place)

abbrev pub run_front : ℕ → ℕ → List ℕ → Result ℕ Fault
run_front line place bs = or_fault (run_in (field_of bs)) (field_fault line place)

-- eight numbers, field by field
abbrev pub wire_front : ℕ → List ℕ → Result Wire Fault
wire_front line bs =
    and_then (number_front line 2 bs) (λ a.
    and_then (number_front line 3 (after_fields 1 bs)) (λ b.
    and_then (number_front line 4 (after_fields 2 bs)) (λ g.
    and_then (number_front line 5 (after_fields 3 bs)) (λ d.
    and_then (number_front line 6 (after_fields 4 bs)) (λ e.
    and_then (number_front line 7 (after_fields 5 bs)) (λ k.
    and_then (number_front line 8 (after_fields 6 bs)) (λ h.
    and_then (number_front line 9 (after_fields 7 bs)) (λ t.
    Ok (record { a = a; b = b; g = g; d = d; e = e; k = k; h = h; t = t })))))))))

-- a channel and a grid, field by field
abbrev pub head_front : ℕ → List ℕ → Result (ℕ × Grid) Fault
head_front line bs =
    and_then (number_front line 2 bs) (λ channel.
    and_then (run_front line 3 (after_fields 1 bs)) (λ widths.
    and_then (run_front line 4 (after_fields 2 bs)) (λ spaces.
    Ok (channel, record { widths = widths; spaces = spaces }))))

-- a drawing that goes on, or the fault that stops it
abbrev pub going_on : Result (Unit {0}) Fault → Plan → Result Plan Fault
going_on (Ok u) p = Ok p
going_on (Err f) p = Err f
