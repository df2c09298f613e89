use Rattle.std.proofs.Common.{◌≡◌, ℕ, ◌-◌, Bool, true, map, refl, arith}
use Rattle.std.specs.Str.{bytes_eq}
use Rattle.std.proofs.lemmas.Slice.Eq.{bytes_eq-Decides}
use Rattle.drawing.specs.Steps.{steps}
use Rattle.drawing.proofs.Steps.{every_below, read_off}
use Rattle.text.specs.Runs.{run_text}
use Rattle.sheets.proofs.reading.runs_are_steps.Goals as goal

-- the digits of the byte's run are its steps
abbrev told : ℕ → Bool
told byte = bytes_eq (map (λ c. c - 48) (run_text byte)) (steps byte)

-- the test, computed over the whole table
table : every_below told 64 ≡ true
unfolding run_text
table = refl

pub returns : goal.returns
returns c = λ byte le. (bytes_eq-Decides (map (λ c. c - 48) (run_text byte)) (steps byte)).0 (read_off told 64 table byte (omega arith))
