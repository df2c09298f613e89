-- What a drawing shows, its limits and its least width. Assumes nothing.
use Rattle.std.specs.Prelude.{◌≡◌, ℕ, ◌+◌, ◌*◌, ◌≤◌, Bool, true, false, not, ◌||◌, List, [], ◌∷◌, length, is_some, Option, ◌==◌, nat_lt}
use Rattle.drawing.specs.declared.words.Wire.{Wire}
use Rattle.drawing.specs.declared.words.Grid.{Grid}
use Rattle.drawing.specs.Lists.{all, first_true}
use Rattle.drawing.specs.Steps.{smallest}

-- what a drawing shows: its grid, its channel and its wires from left to right
pub record Plan : Type 0 where
  pub grid : Grid
  pub channel : ℕ
  pub wires : List Wire

-- which of a wire's eight numbers are above their limits, in their order
abbrev pub excesses : Wire → List Bool
excesses w =
    nat_lt 1000 w.a ∷ nat_lt 1000 w.b ∷ nat_lt 1000 w.g ∷ nat_lt 1000 w.d ∷ nat_lt 1000 w.e ∷ nat_lt 1000 w.k ∷ nat_lt 1000 w.h
    ∷ nat_lt 60000000 w.t ∷ []

-- the place, from 0, of a wire's first number above its limit
abbrev pub first_excess : Wire → Option ℕ
first_excess w = first_true (excesses w)

-- a number of the wire is above its limit
abbrev pub over_limit : Wire → Bool
over_limit w = is_some (first_excess w)

-- no number of the wire is above its limit
abbrev pub within_limits : Wire → Bool
within_limits w = not (over_limit w)

-- a byte that is no set of steps: it has no bit, or one that stands for no step
abbrev pub bad_byte : ℕ → Bool
bad_byte byte = byte == 0 || nat_lt 63 byte

abbrev pub bad_grid : Grid → Bool
bad_grid grid = bad_byte grid.widths || bad_byte grid.spaces

abbrev pub bad_channel : ℕ → Bool
bad_channel channel = channel == 0 || nat_lt 300 channel

-- the width that n wires take up at the least
abbrev pub least_width : Grid → ℕ → ℕ
least_width grid n = n * smallest grid.widths + (n + 1) * smallest grid.spaces

-- n wires do not fit the channel at their least width
abbrev pub too_narrow : Grid → ℕ → ℕ → Bool
too_narrow grid channel n = nat_lt channel (least_width grid n)

-- what holds of every drawing
pub record Sound (p : Plan) : Type 0 where
  pub gridded : bad_grid p.grid ≡ false
  pub channelled : bad_channel p.channel ≡ false
  pub few : length p.wires ≤ 24
  pub limited : all within_limits p.wires ≡ true
  pub fitting : too_narrow p.grid p.channel (length p.wires) ≡ false
