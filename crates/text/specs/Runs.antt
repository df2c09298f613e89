-- Runs of steps: sets of steps as rising digits. Assumes nothing.
use Rattle.std.specs.Prelude.{ℕ, zero, suc, ◌+◌, ◌-◌, ◌/◌, ◌%◌, ◌^◌, Bool, true, cond, ◌&&◌, List, [], ◌∷◌, length, Some, None, Option, ◌==◌, nat_le, nat_lt}

-- digits above `low` that rise strictly, none above `top`
abbrev pub rising : ℕ → ℕ → List ℕ → Bool
rising top low [] = true
rising top low (c ∷ cs) = nat_lt (48 + low) c && (nat_le c (48 + top) && rising top (c - 48) cs)

-- the byte with the bit of each step that is spelled: bit 0 for step 1
abbrev pub set_of : List ℕ → ℕ
set_of [] = 0
set_of (c ∷ cs) = 2 ^ (c - 49) + set_of cs

-- the set that a possibly empty run of digits 1 to `top` is, if it is one
abbrev pub set_in : ℕ → List ℕ → Option ℕ
set_in top ds = cond (rising top 0 ds) (Some (set_of ds)) None

-- the set that a run of 1 to 6 rising digits 1 to 6 is, if it is one
abbrev pub run_in : List ℕ → Option ℕ
run_in ds = cond (nat_lt 0 (length ds)) (set_in 6 ds) None

-- the digits of the steps in a set, from step k + 1 on, for n steps
abbrev pub digits_from : ℕ → ℕ → ℕ → List ℕ
digits_from zero k s = []
digits_from (suc n) k s = cond (s % 2 == 1) ((49 + k) ∷ digits_from n (k + 1) (s / 2)) (digits_from n (k + 1) (s / 2))

-- a set of steps as rising digits
unfoldable pub run_text : ℕ → List ℕ
run_text s = digits_from 6 0 s
