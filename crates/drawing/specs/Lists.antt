-- Small words on lists. Assumes nothing.
use Rattle.std.specs.Prelude.{ℕ, ◌+◌, min, Bool, cond, List, [], ◌∷◌, Some, None, Option, filter}
use Rattle.std.specs.List.{list_all}

-- every element passes the test
abbrev pub all : {X : Type 0} → (X → Bool) → List X → Bool
all = list_all

-- the elements that pass the test, in their order
abbrev pub keep : {X : Type 0} → (X → Bool) → List X → List X
keep = filter

-- the place of the first `true`, counted from n
abbrev pub first_from : ℕ → List Bool → Option ℕ
first_from n [] = None
first_from n (b ∷ bs) = cond b (Some n) (first_from (n + 1) bs)

-- the place of the first `true`, counted from 0
abbrev pub first_true : List Bool → Option ℕ
first_true bs = first_from 0 bs

-- the least of a number and those of a list
abbrev pub least_with : ℕ → List ℕ → ℕ
least_with x [] = x
least_with x (y ∷ ys) = least_with (min x y) ys

-- the least of a list of numbers; 0 where there is none
abbrev pub least : List ℕ → ℕ
least [] = 0
least (x ∷ xs) = least_with x xs
