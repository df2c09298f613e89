-- Whether any allocation is lawful does not hang on the wires' numbers: one value of delay and wires of noughts tell it. Assumes nothing.
use Rattle.std.specs.Prelude.{◌≡◌, true, ◌↔◌, [], map}
use Rattle.drawing.specs.declared.words.Wire.{Wire}
use Rattle.drawing.specs.Plans.{Plan}
use Rattle.pricing.specs.Allocations.{Book}
use Rattle.pricing.specs.Measures.{Measure}
use Rattle.frontier.specs.Points.{prices}

-- the measure with one value
abbrev pub unit_measure : Measure (Unit {0})
unit_measure = record { empty = tt; made = λ d t. tt; joined = λ x y. tt; below = λ x y. true }

-- a wire of noughts
abbrev pub no_wire : Wire
no_wire = record { a = 0; b = 0; g = 0; d = 0; e = 0; k = 0; h = 0; t = 0 }

-- a plan with a wire of noughts for each of its wires
abbrev pub bare : Plan → Plan
bare d = record { grid = d.grid; channel = d.channel; wires = map (λ q. no_wire) d.wires }

-- no allocation is lawful exactly where none of the bare plan is
abbrev pub BareNone : {V : Type 0} → Measure V → Book → Plan → Type 0
BareNone m book d = (prices m book d ≡ []) ↔ (prices unit_measure book (bare d) ≡ [])
