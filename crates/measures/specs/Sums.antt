-- Sums of delays that stop, and the delays in reach of so many wires.
use Rattle.std.specs.Prelude.{ℕ, ◌+◌, ◌*◌, ◌≤◌, min}

-- the number at which sums stop
abbrev pub most : ℕ
most = 4294967295

-- a sum that stops
abbrev pub stopped_sum : ℕ → ℕ → ℕ
stopped_sum x y = min (x + y) most

-- a delay of so many wires: at most 60,000,000 each
abbrev pub within : ℕ → ℕ → Type 0
within k v = v ≤ k * 60000000
