-- What a wire costs as it lies. Widths and spaces are steps, which divide 60, so every quotient is whole. Assumes nothing.
use Rattle.std.specs.Prelude.{ℕ, ◌+◌, ◌*◌, ◌/◌, Bool, ◌&&◌}
use Rattle.drawing.specs.Plans.{within_limits}
use Rattle.rules.specs.Steps.{three_steps}
use Rattle.pricing.specs.Allocations.{Laid}

-- what has a price: a wire within its limits, and three steps
abbrev pub priceable : Laid → Bool
priceable y = within_limits y.wire && three_steps y.left y.width y.right

-- the delay a + b w + g/w + (d + e/w) (1/l + 1/r), in 3600ths of the unit of its coefficients
abbrev pub wire_delay : Laid → ℕ
wire_delay y =
    3600 * (y.wire.a + y.wire.b * y.width) + 60 * y.wire.g * (60 / y.width)
    + (60 * y.wire.d + y.wire.e * (60 / y.width)) * (60 / y.left + 60 / y.right)

-- the power k w + h (1/l + 1/r), in 60ths of the unit of its coefficients
abbrev pub wire_power : Laid → ℕ
wire_power y = 60 * y.wire.k * y.width + y.wire.h * (60 / y.left + 60 / y.right)
