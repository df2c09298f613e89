-- A number below 10 ^ 8 and its field say the same. Assumes nothing.
use Rattle.std.proofs.Common.{◌≡◌, ℕ, ◌+◌, ◌-◌, ◌*◌, ◌%◌, ◌^◌, ◌<◌, ◌≤◌, true, List, [], ◌∷◌, length, get_or, fold, Some, decimal, sym, refl, pow-suc, add-one, arith, rules}
use native.Mathlib.Nat.{pow-le-pow_right}
use Rattle.std.specs.Char.{is_ascii_digit}
use Rattle.std.specs.List.{list_all}
use Rattle.std.proofs.lemmas.Str.Parse.{IsNumeralModel, numerals_by_fold, digits_value_short}
use Rattle.std.proofs.lemmas.Fmt.{digits_decimal, digits_value-decimal, decimal-digits_value, length-decimal-le, decimal_nonempty, first_decimal}
use Rattle.std.proofs.lemmas.Bool.Decides.{nat_tests}
use Rattle.text.specs.Numbers.{all_digits, spelled_after, number_in}
use Rattle.text.proofs.Steps.{number_some}

-- digits, and the number that they spell
pub spelled_numerals : IsNumeralModel (λ ds. all_digits ds ≡ true) (spelled_after 0)
spelled_numerals = numerals_by_fold _ (search rules) spelled_after (search rules)

-- only 0 begins with a nought
lead : (n : ℕ) → n < 10 ^ 8 → get_or (decimal n) 0 0 ≡ 48 → length (decimal n) ≤ 1
lead n h e = length-decimal-le 1 n (omega arith) (grind (arith, first_decimal n)) (omega arith)

-- a number below 10 ^ 8, written, is read again
pub number_write : (n : ℕ) → n < 10 ^ 8 → number_in (decimal n) ≡ Some n
number_write n h =
    number_some (decimal n) n (decimal_nonempty n (omega arith)) (length-decimal-le 8 n (omega arith) h (omega arith))
    (lead n h) (digits_decimal spelled_numerals n (omega arith)) (digits_value-decimal spelled_numerals n (omega arith))

-- what a number field is
pub record IsNumber (ds : List ℕ) (n : ℕ) : Type 0 where
  pub some : 0 < length ds
  pub few : length ds ≤ 8
  pub plain : get_or ds 0 0 ≡ 48 → length ds ≡ 1
  pub all : all_digits ds ≡ true
  pub worth : spelled_after 0 ds ≡ n

-- a field that is read as n is a number field
pub number_parts : (ds : List ℕ) (n : ℕ) → number_in ds ≡ Some n → IsNumber ds n
number_parts ds n e = record {
  some = grind (arith, nat_tests);
  few = grind (arith, nat_tests);
  plain = λ z. grind (arith, nat_tests);
  all = grind (arith, nat_tests);
  worth = grind (arith, nat_tests);
}

-- what is read has at most 8 digits
pub number_below : (ds : List ℕ) (n : ℕ) → number_in ds ≡ Some n → n < 10 ^ 8
number_below ds n e =
    let p = number_parts ds n e in
    let v : spelled_after 0 ds < 10 ^ 8 = digits_value_short spelled_numerals ds 8 p.all p.few in
    omega arith

-- what is read as n is what n writes
pub number_read : (ds : List ℕ) (n : ℕ) → number_in ds ≡ Some n → decimal n ≡ ds
number_read ds n e =
    let p = number_parts ds n e in
    let v : n < 10 ^ 8 = number_below ds n e in
    rw (sym p.worth) (decimal-digits_value spelled_numerals ds p.all p.some p.plain (omega arith))

-- ---- what the library reads

-- every byte is a digit
pub digits_all : (ds : List ℕ) → list_all is_ascii_digit ds ≡ all_digits ds
digits_all [] = refl
digits_all (c ∷ cs) = let ih = digits_all cs in grind (arith, nat_tests)

-- at most 8 digits spell without a wrap what they spell, behind those that spell n
pub digits_folded : (k n : ℕ) (ds : List ℕ) → n < 10 ^ k → k + length ds ≤ 8 → all_digits ds ≡ true → fold (λ m c. (m * 10 + (c - 48)) % 2 ^ 32) n ds ≡ spelled_after n ds
digits_folded k n [] h l d = refl
digits_folded k n (c ∷ cs) h l d =
    let seven : k ≤ 7 = omega arith in
    let most : 10 ^ k ≤ 10 ^ 7 = pow-le-pow_right (omega arith) seven in
    let digit : c ≤ 57 = grind (arith, nat_tests) in
    let whole : (n * 10 + (c - 48)) % 2 ^ 32 ≡ 10 * n + (c - 48) = omega arith in
    let more : 10 * n + (c - 48) < 10 ^ (k + 1) = rw (add-one, pow-suc) (omega arith) in
    rw whole (digits_folded (k + 1) (10 * n + (c - 48)) cs more (omega arith) (grind (arith, nat_tests)))
