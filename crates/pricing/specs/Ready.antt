-- What the sums over an allocation's wires are asked of. Assumes nothing.
use Rattle.std.specs.Prelude.{◌≡◌, ◌+◌, ◌≤◌, true, List, length}
use Rattle.drawing.specs.declared.words.Wire.{Wire}
use Rattle.drawing.specs.Lists.{all}
use Rattle.drawing.specs.Plans.{within_limits}
use Rattle.rules.specs.Steps.{step}
use Rattle.pricing.specs.Allocations.{Allocation}

-- wires of a drawing, with a width for each and one space more, all of them steps
pub record Ready (qs : List Wire) (x : Allocation) : Type 0 where
  pub few : length qs ≤ 24
  pub limited : all within_limits qs ≡ true
  pub wide : length x.widths ≡ length qs
  pub apart : length x.spaces ≡ length qs + 1
  pub width_steps : all step x.widths ≡ true
  pub space_steps : all step x.spaces ≡ true
