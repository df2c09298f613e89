-- How long the lines of a sheet can be. Assumes nothing.
use Rattle.std.proofs.Common.{◌≡◌, ℕ, ◌+◌, ◌*◌, ◌≤◌, true, false, List, [], ◌∷◌, length, codes, decimal, refl, arith}
use Rattle.std.specs.List.{flat_map}
use Rattle.std.proofs.lemmas.List.{length-append}
use Rattle.std.proofs.lemmas.Bool.{and_parts, not-true}
use Rattle.std.proofs.lemmas.Bool.Decides.{nat_tests}
use Rattle.std.proofs.lemmas.Fmt.{length-decimal-le}
use Rattle.drawing.specs.declared.words.Wire.{Wire}
use Rattle.drawing.specs.declared.words.Grid.{Grid}
use Rattle.drawing.specs.Lists.{all}
use Rattle.drawing.specs.Plans.{bad_channel, over_limit, within_limits}
use Rattle.text.specs.Cuts.{led_by, join_by}
use Rattle.text.specs.Lines.{line_of}
use Rattle.text.specs.Runs.{run_text}
use Rattle.text.proofs.Runs.{length_run}
use Rattle.sheets.specs.Texts.{head_text, wire_text, end_text}
use Rattle.sheets.proofs.Limited.{limits}

-- the bytes of parts with a comma before each
abbrev spread : List (List ℕ) → ℕ
spread [] = 0
spread (f ∷ fs) = length f + spread fs + 1

-- parts with a comma before each have that many bytes
length_after : (fs : List (List ℕ)) → length (led_by 44 fs) ≡ spread fs
length_after [] = refl
length_after (f ∷ fs) = omega (arith, length-append f (led_by 44 fs), length_after fs)

-- the bytes of a line
length_line : (f : List ℕ) (fs : List (List ℕ)) → length (line_of (f ∷ fs)) ≡ length f + spread fs + 1
length_line f fs =
    omega (arith, length-append (join_by 44 (f ∷ fs)) (10 ∷ []), length-append f (led_by 44 fs), length_after fs)

-- a head line has at most 24 bytes
pub head_longest : (grid : Grid) (channel : ℕ) → bad_channel channel ≡ false → length (head_text grid channel) ≤ 24
unfolding head_text
head_longest grid channel fair =
    let few : channel ≤ 300 = grind (arith, nat_tests) in
    let c = length-decimal-le 3 channel (omega arith) (omega arith) (omega arith) in
    omega (arith, length_line (codes "sheet") (decimal channel ∷ run_text grid.widths ∷ run_text grid.spaces ∷ []), length_run grid.widths, length_run grid.spaces)

-- a number up to 1000 has at most 4 digits
four_digits : (n : ℕ) → n ≤ 1000 → length (decimal n) ≤ 4
four_digits n few = length-decimal-le 4 n (omega arith) (omega arith) (omega arith)

-- a wire line has at most 49 bytes
pub wire_longest : (w : Wire) → over_limit w ≡ false → length (wire_text w) ≤ 49
unfolding wire_text
wire_longest w fair =
    let m = limits w fair in
    let a = four_digits w.a m.a in
    let b = four_digits w.b m.b in
    let g = four_digits w.g m.g in
    let d = four_digits w.d m.d in
    let e = four_digits w.e m.e in
    let k = four_digits w.k m.k in
    let h = four_digits w.h m.h in
    let t = length-decimal-le 8 w.t (omega arith) (omega arith) (omega arith) in
    omega (arith, length_line (codes "wire") (decimal w.a ∷ decimal w.b ∷ decimal w.g ∷ decimal w.d ∷ decimal w.e ∷ decimal w.k ∷ decimal w.h ∷ decimal w.t ∷ []))

-- wire lines have at most 49 bytes each
pub wires_longest : (ws : List Wire) → all within_limits ws ≡ true → length (flat_map wire_text ws) ≤ 49 * length ws
wires_longest [] limited = omega arith
wires_longest (w ∷ ws) limited =
    let both = and_parts (within_limits w) (all within_limits ws) limited in
    omega (arith, length-append (wire_text w) (flat_map wire_text ws), wire_longest w (not-true (over_limit w) both.0), wires_longest ws both.1)

-- an end line has at most 7 bytes
pub end_longest : (n : ℕ) → n ≤ 24 → length (end_text n) ≤ 7
unfolding end_text
end_longest n few =
    let c = length-decimal-le 2 n (omega arith) (omega arith) (omega arith) in
    omega (arith, length_line (codes "end") (decimal n ∷ []))
