-- What an allocation costs. Assumes nothing.
use Rattle.std.specs.Prelude.{ℕ, List, map}
use Rattle.drawing.specs.declared.words.Wire.{Wire}
use Rattle.pricing.specs.declared.prices.Priced.{Priced}
use Rattle.pricing.specs.Lists.{total, from_left}
use Rattle.pricing.specs.Allocations.{Laid, Allocation, used_width, laid}
use Rattle.pricing.specs.WirePrices.{wire_delay, wire_power}
use Rattle.pricing.specs.Measures.{Measure}

-- the powers of all wires together
abbrev pub total_power : List Wire → Allocation → ℕ
total_power qs x = total (map wire_power (laid qs x))

-- a value with that of one more wire joined to it
abbrev pub join_wire : {V : Type 0} → Measure V → V → Laid → V
join_wire m v y = m.joined v (m.made (wire_delay y) y.wire.t)

-- the delays of all wires joined from the left, begun with the empty value
abbrev pub joined_delay : {V : Type 0} → Measure V → List Wire → Allocation → V
joined_delay m qs x = from_left (join_wire m) m.empty (laid qs x)

-- the used width, the power and the delay
abbrev pub price_of : {V : Type 0} → Measure V → List Wire → Allocation → Priced V
price_of m qs x = record { used = used_width x; power = total_power qs x; delay = joined_delay m qs x }
