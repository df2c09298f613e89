-- Number fields. Assumes nothing.
use Rattle.std.specs.Prelude.{ℕ, ◌+◌, ◌-◌, ◌*◌, Bool, true, cond, not, ◌&&◌, ◌||◌, List, [], ◌∷◌, length, Some, None, Option, ◌==◌, nat_le, nat_lt, slice_index}

-- every byte is a decimal digit
abbrev pub all_digits : List ℕ → Bool
all_digits [] = true
all_digits (c ∷ cs) = nat_le 48 c && (nat_le c 57 && all_digits cs)

-- the number that digits spell, after those that spell n
abbrev pub spelled_after : ℕ → List ℕ → ℕ
spelled_after n [] = n
spelled_after n (c ∷ cs) = spelled_after (10 * n + (c - 48)) cs

-- 1 to 8 digits without a leading nought; 0 itself is one
abbrev pub is_number : List ℕ → Bool
is_number ds = nat_lt 0 (length ds) && (nat_le (length ds) 8 && ((not (slice_index ds 0 == 48) || length ds == 1) && all_digits ds))

-- the number that a field is, if it is one
abbrev pub number_in : List ℕ → Option ℕ
number_in ds = cond (is_number ds) (Some (spelled_after 0 ds)) None
