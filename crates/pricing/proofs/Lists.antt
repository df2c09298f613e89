-- Tests on every element of a list, and its sum. Assumes nothing.
use Rattle.std.proofs.Common.{◌≡◌, ℕ, suc, ◌<◌, Bool, true, List, [], ◌∷◌, length, get_or, refl, ap, ◌∙◌}
use Rattle.std.proofs.lemmas.Bool.{and_parts, and_from}
use Rattle.drawing.specs.Lists.{all}
use Rattle.std.proofs.Common.{sum, ◌+◌, ◌*◌, ◌≤◌, arith}
use Rattle.std.proofs.lemmas.List.Sums.{sum_by-cons}
use Rattle.pricing.specs.Lists.{total}

-- a test that follows from one that every element passes
pub all_since : {X : Type 0} (f g : X → Bool) → ((x : X) → f x ≡ true → g x ≡ true) → (xs : List X) → all f xs ≡ true → all g xs ≡ true
all_since f g h [] t = refl
all_since f g h (x ∷ xs) t =
    let both = and_parts (f x) (all f xs) t in
    and_from (g x) (all g xs) (h x both.0) (all_since f g h xs both.1)

-- the sum of a list, as the library says it
pub sum_total : (xs : List ℕ) → sum xs ≡ total xs
sum_total [] = refl
sum_total (x ∷ xs) = sum_by-cons (λ y. y) x xs ∙ ap (λ n. x + n) (sum_total xs)

-- the sum of a list of bytes is at most 255 for each
pub total_bytes : (xs : List ℕ) → ((i : ℕ) → get_or xs i 0 < 256) → total xs ≤ 255 * length xs
total_bytes [] below = omega arith
total_bytes (x ∷ xs) below =
    let first : x < 256 = below 0 in
    let others = total_bytes xs (λ i. below (suc i)) in
    omega arith
