-- What holds of every drawing. Assumes nothing.
use Rattle.std.proofs.Common.{◌≡◌, ℕ, ◌≤◌, true, false, List, length, take, sym, subst, arith}
use Rattle.std.proofs.lemmas.List.{length-take-le}
use Rattle.drawing.specs.declared.drawings.Drawing.{Drawing}
use Rattle.drawing.specs.declared.words.Grid.{Grid}
use Rattle.drawing.specs.declared.words.Wire.{Wire}
use Rattle.drawing.specs.Lists.{all}
use Rattle.drawing.specs.Plans.{Sound, bad_grid, bad_channel, within_limits, too_narrow}
use Rattle.drawing.specs.Shown.{plan_of}

-- a drawing shows `count` wires
pub held : (d : Drawing) → length (plan_of d).wires ≡ d.count
held d = length-take-le d.count d.wires (omega (arith, d.whole, d.within))

-- what a drawing shows is sound
pub sound_of : (d : Drawing) → Sound (plan_of d)
sound_of d =
    record { gridded = d.gridded; channelled = d.channelled; few = omega (arith, held d, d.within); limited = d.limited; fitting = d.fitting }

-- what a drawing with other wires has to keep: the first n of the places are those of a sound plan
pub kept : (grid : Grid) (channel : ℕ) (places : List Wire) (n : ℕ) (ws : List Wire) → length places ≡ 24 → n ≤ 24 → take n places ≡ ws
    → Sound (record { grid = grid; channel = channel; wires = ws })
    → (length places ≡ 24)
    × (n ≤ 24)
    × (bad_grid grid ≡ false)
    × (bad_channel channel ≡ false)
    × (all within_limits (take n places) ≡ true)
    × (too_narrow grid channel (length (take n places)) ≡ false)
kept grid channel places n ws whole within is s =
    let t : Sound (record { grid = grid; channel = channel; wires = take n places }) =
    subst (λ (z : List Wire). Sound (record { grid = grid; channel = channel; wires = z })) (sym is) s in
    (whole, within, t.gridded, t.channelled, t.limited, t.fitting)
