-- Words on lists beyond those that pricing uses: what stands in a list, which of it nothing else is at or below, and lists by
-- choice. Assumes nothing.
use Rattle.std.specs.Prelude.{ℕ, zero, suc, ◌<◌, Bool, cond, not, ◌&&◌, ◌||◌, List, [], ◌∷◌, ◌++◌, map, nat_le}
use mathlib.Core.List.{Memᴰ}
use Rattle.drawing.specs.Lists.{all, keep}
use Rattle.pricing.specs.Lists.{some_is}

module _ {A : Type 0} where
  -- x stands in the list
  infix 20 ◌∈◌
  abbrev pub ◌∈◌ : A → List A → Type 0
  x ∈ xs = Memᴰ x xs

  -- x in front where the test passes
  abbrev pub put : Bool → A → List A → List A
  put b x xs = cond b (x ∷ xs) xs

  -- each of the two is at or below the other
  abbrev pub equals : (A → A → Bool) → A → A → Bool
  equals le x y = le x y && le y x

  -- the last of equals stays
  abbrev pub distinct : (A → A → Bool) → List A → List A
  distinct le [] = []
  distinct le (x ∷ xs) = put (not (some_is (equals le x) xs)) x (distinct le xs)

  -- y is at or below x only if x is at or below y too
  abbrev pub spares : (A → A → Bool) → A → A → Bool
  spares le x y = not (le y x) || le x y

  -- nothing else of the list is at or below x
  abbrev pub unbeaten : (A → A → Bool) → List A → A → Bool
  unbeaten le xs x = all (spares le x) xs

  -- the distinct elements that nothing else of the list is at or below
  abbrev pub undominated : (A → A → Bool) → List A → List A
  undominated le xs = distinct le (keep (unbeaten le xs) xs)

  -- x put before the first element whose number is not below its own
  abbrev pub place : (A → ℕ) → A → List A → List A
  place key x [] = x ∷ []
  place key x (y ∷ ys) = cond (nat_le (key x) (key y)) (x ∷ y ∷ ys) (y ∷ place key x ys)

  -- the list in rising order of a number
  abbrev pub rising : (A → ℕ) → List A → List A
  rising key [] = []
  rising key (x ∷ xs) = place key x (rising key xs)

  -- the number rises strictly from element to element
  abbrev pub Rising : (A → ℕ) → List A → Type 0
  Rising key [] = Unit {0}
  Rising key (x ∷ xs) = ((y : A) → y ∈ xs → key x < key y) × Rising key xs

  -- none stands twice
  abbrev pub Fresh : List A → Type 0
  Fresh [] = Unit {0}
  Fresh (x ∷ xs) = (x ∈ xs → ⊥) × Fresh xs

-- the lists of all elements, one after the other
abbrev pub each : {A B : Type 0} → (A → List B) → List A → List B
each f [] = []
each f (x ∷ xs) = f x ++ each f xs

-- every list of n of the options
abbrev pub choices : {A : Type 0} → ℕ → List A → List (List A)
choices zero options = [] ∷ []
choices (suc n) options = each (λ x. map (λ xs. x ∷ xs) (choices n options)) options
