-- Where some wires fit a channel, fewer do. Assumes nothing.
use Rattle.std.proofs.Common.{◌≡◌, ℕ, ◌+◌, ◌*◌, ◌≤◌, false, mul-le-mul_right, arith}
use Rattle.std.proofs.lemmas.Bool.{le-ltb, ltb-false}
use Rattle.drawing.specs.declared.words.Grid.{Grid}
use Rattle.drawing.specs.Plans.{least_width, too_narrow}
use Rattle.drawing.specs.Steps.{smallest}

-- fewer wires are not wider
pub least_width_grows : (grid : Grid) (m n : ℕ) → m ≤ n → least_width grid m ≤ least_width grid n
least_width_grows grid m n le =
    let w : m * smallest grid.widths ≤ n * smallest grid.widths = mul-le-mul_right (smallest grid.widths) le in
    let l : m + 1 ≤ n + 1 = omega arith in
    let s : (m + 1) * smallest grid.spaces ≤ (n + 1) * smallest grid.spaces = mul-le-mul_right (smallest grid.spaces) l in
    omega arith

-- where n wires fit, fewer do
pub fewer_fit : (grid : Grid) (channel m n : ℕ) → m ≤ n → too_narrow grid channel n ≡ false → too_narrow grid channel m ≡ false
fewer_fit grid channel m n le fit =
    let g = least_width_grows grid m n le in
    let f : least_width grid n ≤ channel = ltb-false channel (least_width grid n) fit in
    le-ltb channel (least_width grid m) (omega arith)
