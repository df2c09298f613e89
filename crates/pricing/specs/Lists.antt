-- Words on lists beyond those that a drawing uses. Assumes nothing.
use Rattle.std.specs.Prelude.{ℕ, ◌+◌, Bool, List, [], ◌∷◌, fold}
use Rattle.std.specs.List.{list_any}

-- some element passes the test
abbrev pub some_is : {X : Type 0} → (X → Bool) → List X → Bool
some_is = list_any

-- the sum of a list of numbers
abbrev pub total : List ℕ → ℕ
total [] = 0
total (x ∷ xs) = x + total xs

-- from y on, each element of the list taken in turn, from the left
abbrev pub from_left : {X Y : Type 0} → (Y → X → Y) → Y → List X → Y
from_left = fold
