-- One step of a loop over the bytes of a field, for each definition by recursion on them. Assumes nothing.
use Rattle.std.proofs.Common.{◌≡◌, ℕ, ◌+◌, ◌-◌, ◌*◌, ◌%◌, ◌^◌, ◌<◌, ◌≤◌, true, false, List, length, get_or, drop, Some, None, ap, ◌∙◌, pow-suc, add-one, arith}
use native.Mathlib.Nat.{pow-le-pow_right}
use Rattle.std.proofs.lemmas.List.{at_drop_more}
use Rattle.std.proofs.lemmas.Bool.Decides.{nat_tests}
use Rattle.text.specs.Numbers.{all_digits, spelled_after, number_in}
use Rattle.text.specs.Runs.{rising, set_of}

-- ---- numbers

-- with a byte that is no digit a field is no number
pub number_none : (ds : List ℕ) → all_digits ds ≡ false → number_in ds ≡ None
number_none ds e = grind (arith, nat_tests)

-- when a field is a number
pub number_some : (ds : List ℕ) (n : ℕ) → 0 < length ds → length ds ≤ 8 → (get_or ds 0 0 ≡ 48 → length ds ≤ 1) → all_digits ds ≡ true → spelled_after 0 ds ≡ n → number_in ds ≡ Some n
number_some ds n a b f d e = grind (arith, nat_tests)

-- ---- sets of steps

-- a digit that rises is gone past
pub rising_step : (top low : ℕ) (xs : List ℕ) (i : ℕ) → i < length xs → 48 + low < get_or xs i 0 → get_or xs i 0 ≤ 48 + top → rising top low (drop i xs) ≡ rising top (get_or xs i 0 - 48) (drop (i + 1) xs)
rising_step top low xs i h lo hi = at_drop_more (rising top low) xs i 0 h ∙ grind (arith, nat_tests)

-- one step more is in the set
pub set_step : (xs : List ℕ) (i : ℕ) → i < length xs → set_of (drop i xs) ≡ 2 ^ (get_or xs i 0 - 49) + set_of (drop (i + 1) xs)
set_step xs i h = at_drop_more set_of xs i 0 h

-- a set of steps up to `low`, and one step more
pub set_more : (s low d : ℕ) → s < 2 ^ low → low < d → s + 2 ^ (d - 1) < 2 ^ d
set_more s low d h lt =
    let e : d ≡ (d - 1) + 1 = omega arith in
    let m : 2 ^ low ≤ 2 ^ (d - 1) = pow-le-pow_right (omega arith) (omega arith) in
    let p : 2 ^ ((d - 1) + 1) ≡ 2 ^ (d - 1) * 2 = rw (add-one, pow-suc) in
    let q : 2 ^ d ≡ 2 ^ ((d - 1) + 1) = ap (λ k. 2 ^ k) e in
    omega arith

-- the bit of one step is shifted whole
pub bit_whole : (k : ℕ) → k ≤ 7 → 1 * 2 ^ k % 256 ≡ 2 ^ k
bit_whole k h = let m : 2 ^ k ≤ 2 ^ 7 = pow-le-pow_right (omega arith) h in omega arith
