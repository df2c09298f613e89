-- Sets of triples (left space, width, right space) that bar pairs (width, space).
use Rattle.std.specs.Prelude.{ℕ, ◌+◌, ◌-◌, ◌*◌, Bool, false, not, ◌&&◌, ◌||◌, List, ◌==◌, slice_index_or}
use Rattle.rules.specs.Steps.{two_steps}

-- a pair of steps that has no mark among 36 of them, six spaces for each width in turn
abbrev pub stands : List Bool → ℕ → ℕ → Bool
stands marks w s = two_steps w s && not (slice_index_or marks ((w - 1) * 6 + (s - 1)) false)

-- the triples in which neither side makes a marked pair
abbrev pub neither_barred : List Bool → ℕ → ℕ → ℕ → Bool
neither_barred marks l w r = stands marks w l && stands marks w r

-- a set of triples less those of width v with the space s on a side
abbrev pub bars : (ℕ → ℕ → ℕ → Bool) → ℕ → ℕ → ℕ → ℕ → ℕ → Bool
bars among v s l w r = among l w r && not (w == v && (l == s || r == s))
