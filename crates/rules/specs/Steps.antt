-- Steps, the whole numbers 1 to 6: of one number, of two and of three.
use Rattle.std.specs.Prelude.{ℕ, Bool, ◌&&◌, nat_le}

-- a number is a step
abbrev pub step : ℕ → Bool
step n = nat_le 1 n && nat_le n 6

-- a width and a space are steps
abbrev pub two_steps : ℕ → ℕ → Bool
two_steps w s = step w && step s

-- a left space, a width and a right space are steps
abbrev pub three_steps : ℕ → ℕ → ℕ → Bool
three_steps l w r = step l && (step w && step r)
