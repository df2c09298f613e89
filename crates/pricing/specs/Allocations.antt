-- Allocations: a width for each wire and the spaces around them, and which are lawful. Assumes nothing.
use Rattle.std.specs.Prelude.{ℕ, ◌+◌, Bool, ◌&&◌, List, [], ◌∷◌, length, ◌==◌, nat_eq, nat_le}
use Rattle.drawing.specs.declared.words.Wire.{Wire}
use Rattle.drawing.specs.Lists.{all}
use Rattle.drawing.specs.Plans.{Plan}
use Rattle.drawing.specs.Steps.{steps}
use Rattle.pricing.specs.Lists.{some_is, total}

-- a wire as it lies: its width, and the spaces at its sides
pub record Laid : Type 0 where
  pub wire : Wire
  pub left : ℕ
  pub width : ℕ
  pub right : ℕ

-- for n wires, n widths and n + 1 spaces, from left to right
pub record Allocation : Type 0 where
  pub widths : List ℕ
  pub spaces : List ℕ

-- all widths and spaces together
abbrev pub used_width : Allocation → ℕ
used_width x = total x.widths + total x.spaces

-- the wires as they lie, where the space l stands before them and the spaces ss after each
abbrev pub lay : List Wire → List ℕ → ℕ → List ℕ → List Laid
lay [] ws l ss = []
lay (q ∷ qs) [] l ss = []
lay (q ∷ qs) (w ∷ ws) l [] = []
lay (q ∷ qs) (w ∷ ws) l (r ∷ ss) = record { wire = q; left = l; width = w; right = r } ∷ lay qs ws r ss

-- the wires as they lie, where the first of the spaces stands before them
abbrev pub lay_between : List Wire → List ℕ → List ℕ → List Laid
lay_between qs ws [] = []
lay_between qs ws (l ∷ ss) = lay qs ws l ss

-- the wires as an allocation lays them
abbrev pub laid : List Wire → Allocation → List Laid
laid qs x = lay_between qs x.widths x.spaces

-- a rule book: which triples (left space, width, right space) it admits
abbrev pub Book : Type 0
Book = ℕ → ℕ → ℕ → Bool

-- the book admits the wire as it lies
abbrev pub admits_laid : Book → Laid → Bool
admits_laid book y = book y.left y.width y.right

-- a number is one of the steps of a grid byte
abbrev pub is_step_of : ℕ → ℕ → Bool
is_step_of byte s = some_is (nat_eq s) (steps byte)

-- a width for each wire, and one space more
abbrev pub counted : Plan → Allocation → Bool
counted p x = length x.widths == length p.wires && length x.spaces == length p.wires + 1

-- every width and every space is a step of the grid
abbrev pub in_grid : Plan → Allocation → Bool
in_grid p x = all (is_step_of p.grid.widths) x.widths && all (is_step_of p.grid.spaces) x.spaces

-- the book admits every wire as it lies
abbrev pub admitted : Book → Plan → Allocation → Bool
admitted book p x = all (admits_laid book) (laid p.wires x)

-- the channel is not exceeded
abbrev pub within_channel : Plan → Allocation → Bool
within_channel p x = nat_le (used_width x) p.channel

-- counted, in the grid, admitted and within the channel
abbrev pub lawful : Book → Plan → Allocation → Bool
lawful book p x = counted p x && (in_grid p x && (admitted book p x && within_channel p x))
