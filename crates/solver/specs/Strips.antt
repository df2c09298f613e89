-- The rows of a strip of witnesses. Assumes nothing.
use Rattle.std.specs.Prelude.{ℕ, ◌-◌, List, ◌++◌, length, replicate}
use Rattle.pricing.specs.Allocations.{Allocation}

-- the 49 bytes of a witness: the widths, noughts up to 24 bytes, the spaces, noughts up to 25 bytes
abbrev pub row_bytes : Allocation → List ℕ
row_bytes x = x.widths ++ replicate (24 - length x.widths) 0 ++ (x.spaces ++ replicate (25 - length x.spaces) 0)
