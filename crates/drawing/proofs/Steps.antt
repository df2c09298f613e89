-- The smallest step of a byte is one more than the number of its trailing zeros. Assumes nothing.
use Rattle.std.proofs.Common.{◌≡◌, ℕ, zero, suc, ◌+◌, ◌<◌, ◌≤◌, Bool, true, false, ◌&&◌, ◌||◌, eqb, ltb, leb, sym, refl, ap, ◌∙◌, arith}
use lib.Count.{count_trailing_zeros}
use Rattle.std.proofs.lemmas.Bool.{and_parts, eqb-true, leb-true, ltb-false, or_parts}
use Rattle.std.proofs.lemmas.Bool.Decides.{Decides-below_and}
use Rattle.drawing.specs.Plans.{bad_byte}
use Rattle.drawing.specs.Steps.{smallest}

-- the test passes at every number below n
abbrev pub every_below : (ℕ → Bool) → ℕ → Bool
every_below f zero = true
every_below f (suc n) = f n && every_below f n

-- what a test that passes below n says of a number below n
pub read_off : (f : ℕ → Bool) (n : ℕ) → every_below f n ≡ true → (k : ℕ) → k < n → f k ≡ true
read_off f n t k lt = (Decides-below_and f (λ j. f j ≡ true) (every_below f) (λ j. ((λ e. e), (λ e. e))) refl (λ _. refl) n).0 t k lt

-- the byte is no set of steps, or its smallest step is told by its trailing zeros and is at most 6
abbrev told : ℕ → Bool
told byte = bad_byte byte || (eqb (count_trailing_zeros 8 byte + 1) (smallest byte) && leb (smallest byte) 6)

-- the test, computed over the whole table
table : every_below told 64 ≡ true
unfolding count_trailing_zeros
table = refl

-- what `or` says where its first part fails
second_part : (x y : Bool) → x ≡ false → (x || y) ≡ true → y ≡ true
second_part x y e t = ap (λ z. z || y) (sym e) ∙ t

-- a set of steps has its smallest step told by its trailing zeros
pub smallest_told : (byte : ℕ) → bad_byte byte ≡ false → (count_trailing_zeros 8 byte + 1 ≡ smallest byte) × (smallest byte ≤ 6)
smallest_told byte fair =
    let le : byte ≤ 63 = ltb-false 63 byte (or_parts (eqb byte 0) (ltb 63 byte) fair).1 in
    let t : told byte ≡ true = read_off told 64 table byte (omega arith) in
    let both = and_parts _ _ (second_part _ _ fair t) in
    (eqb-true _ _ both.0, leb-true _ _ both.1)
