-- All allocations of a plan, and the prices of the lawful ones as points of power and delay. Assumes nothing.
use Rattle.std.specs.Prelude.{suc, Bool, ◌&&◌, List, map, length, nat_le}
use Rattle.drawing.specs.declared.words.Wire.{Wire}
use Rattle.drawing.specs.Lists.{keep}
use Rattle.drawing.specs.Plans.{Plan}
use Rattle.drawing.specs.Steps.{steps}
use Rattle.pricing.specs.Allocations.{Allocation, Book, lawful}
use Rattle.pricing.specs.Measures.{Measure}
use Rattle.pricing.specs.Prices.{total_power, joined_delay}
use Rattle.frontier.specs.declared.records.Point.{Point}
use Rattle.frontier.specs.Lists.{each, choices}

-- every allocation in the grid of a plan: a width for each wire, and one space more
abbrev pub allocations : Plan → List Allocation
allocations d =
    let n = length d.wires in
    let all_spaces = choices (suc n) (steps d.grid.spaces) in
    each (λ ws. map (λ ss. record { widths = ws; spaces = ss }) all_spaces) (choices n (steps d.grid.widths))

-- the allocations that a book and the channel allow
abbrev pub lawful_allocations : Book → Plan → List Allocation
lawful_allocations book d = keep (lawful book d) (allocations d)

-- the power and the delay of an allocation
abbrev pub point_of : {V : Type 0} → Measure V → List Wire → Allocation → Point V
point_of m qs x = record { power = total_power qs x; delay = joined_delay m qs x }

-- one point is at or below another in both
abbrev pub at_or_below : {V : Type 0} → Measure V → Point V → Point V → Bool
at_or_below m p q = nat_le p.power q.power && m.below p.delay q.delay

-- the prices of all lawful allocations
abbrev pub prices : {V : Type 0} → Measure V → Book → Plan → List (Point V)
prices m book d = map (point_of m d.wires) (lawful_allocations book d)
