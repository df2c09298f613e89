-- A list by its places. Assumes nothing.
use Rattle.std.proofs.Common.{◌≡◌, ℕ, zero, suc, List, [], ◌∷◌, length, get_or, refl, ap, ◌∙◌, arith}

-- what stands at n places of a list, from the place k on
abbrev pub slots : {X : Type 0} → X → ℕ → ℕ → List X → List X
slots d zero k xs = []
slots d (suc n) k xs = get_or xs k d ∷ slots d n (suc k) xs

-- one place further on in a list with one element more
slots_next : {X : Type 0} (d : X) (n k : ℕ) (x : X) (xs : List X) → slots d n (suc k) (x ∷ xs) ≡ slots d n k xs
slots_next d zero k x xs = refl
slots_next d (suc n) k x xs = ap (λ z. get_or xs k d ∷ z) (slots_next d n (suc k) x xs)

-- a list of n elements is what stands at its n places
pub slots_all : {X : Type 0} (d : X) (n : ℕ) (xs : List X) → length xs ≡ n → slots d n 0 xs ≡ xs
slots_all d zero [] e = refl
slots_all d zero (x ∷ xs) e = absurd (omega arith)
slots_all d (suc n) [] e = absurd (omega arith)
slots_all d (suc n) (x ∷ xs) e = ap (λ z. x ∷ z) (slots_next d n 0 x xs ∙ slots_all d n xs (omega arith))
