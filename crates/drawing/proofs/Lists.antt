-- What a test of every element says of the parts of a list and of its edits. Assumes nothing.
use Rattle.std.proofs.Common.{◌≡◌, ℕ, suc, ◌<◌, Bool, true, ◌&&◌, List, [], ◌∷◌, ◌++◌, length, take, drop, set, sym, refl, ap, ◌∙◌}
use Rattle.std.proofs.Math.Bool.{and_assoc}
use Rattle.std.specs.List.{insert, remove}
use Rattle.std.proofs.lemmas.List.{set_split, take-append-drop}
use Rattle.std.proofs.lemmas.Bool.{and_parts, and_from}
use Rattle.drawing.specs.Lists.{all}

-- two lists in a row
pub all_append : {X : Type 0} (f : X → Bool) (xs ys : List X) → all f (xs ++ ys) ≡ (all f xs && all f ys)
all_append f [] ys = refl
all_append f (x ∷ xs) ys = ap (λ z. f x && z) (all_append f xs ys) ∙ sym (and_assoc (f x) (all f xs) (all f ys))

-- the two parts of a list
all_parts : {X : Type 0} (f : X → Bool) (n : ℕ) (xs : List X) → all f xs ≡ true → (all f (take n xs) ≡ true) × (all f (drop n xs) ≡ true)
all_parts f n xs h =
    and_parts (all f (take n xs)) (all f (drop n xs))
    (sym (all_append f (take n xs) (drop n xs)) ∙ ap (all f) (take-append-drop n xs) ∙ h)

-- the first n elements
pub all_take : {X : Type 0} (f : X → Bool) (n : ℕ) (xs : List X) → all f xs ≡ true → all f (take n xs) ≡ true
all_take f n xs h = (all_parts f n xs h).0

-- what stands after the first n elements
pub all_drop : {X : Type 0} (f : X → Bool) (n : ℕ) (xs : List X) → all f xs ≡ true → all f (drop n xs) ≡ true
all_drop f n xs h = (all_parts f n xs h).1

-- two lists that pass
pub all_both : {X : Type 0} (f : X → Bool) (xs ys : List X) → all f xs ≡ true → all f ys ≡ true → all f (xs ++ ys) ≡ true
all_both f xs ys hx hy = all_append f xs ys ∙ and_from (all f xs) (all f ys) hx hy

-- an element inserted
pub all_inserted : {X : Type 0} (f : X → Bool) (xs : List X) (i : ℕ) (x : X) → all f xs ≡ true → f x ≡ true → all f (insert xs i x) ≡ true
all_inserted f xs i x h hx = all_both f (take i xs) (x ∷ drop i xs) (all_take f i xs h) (and_from (f x) (all f (drop i xs)) hx (all_drop f i xs h))

-- an element removed
pub all_removed : {X : Type 0} (f : X → Bool) (xs : List X) (i : ℕ) → all f xs ≡ true → all f (remove xs i) ≡ true
all_removed f xs i h = all_both f (take i xs) (drop (suc i) xs) (all_take f i xs h) (all_drop f (suc i) xs h)

-- an element replaced
pub all_set : {X : Type 0} (f : X → Bool) (xs : List X) (i : ℕ) (x : X) → i < length xs → all f xs ≡ true → f x ≡ true → all f (set xs i x) ≡ true
all_set f xs i x lt h hx =
    ap (all f) (set_split xs i x lt)
    ∙ all_both f (take i xs) (x ∷ drop (suc i) xs) (all_take f i xs h) (and_from (f x) (all f (drop (suc i) xs)) hx (all_drop f (suc i) xs h))
