-- The last of a list and what stands before it. Assumes nothing.
use Rattle.std.proofs.Common.{◌≡◌, ◌-◌, ◌<◌, List, [], ◌∷◌, ◌++◌, length, get_or, drop, sym, refl, ap, ◌∙◌, arith}
use Rattle.std.proofs.lemmas.List.{drop_at, get_or_push, length-drop, length_push, length-take-le, take-append-drop, take_at}
use Rattle.bundle.specs.History.{all_but_last, last_alone}

-- a list that has a last
pub record Ended {X : Type 0} (xs : List X) : Type 0 where
  pub back : X
  pub is : xs ≡ all_but_last xs ++ back ∷ []
  pub alone : last_alone xs ≡ back ∷ []

-- a list of one
one_left : {X : Type 0} (xs : List X) → length xs ≡ 1 → (y : X) × (xs ≡ y ∷ [])
one_left [] e = absurd (omega arith)
one_left (x ∷ []) e = (x, refl)
one_left (x ∷ y ∷ ys) e = absurd (omega arith)

-- a list that is not empty has a last
pub ended : {X : Type 0} (xs : List X) → 0 < length xs → Ended xs
ended xs lt =
    let l : length (drop (length xs - 1) xs) ≡ 1 = length-drop (length xs - 1) xs ∙ omega arith in
    let r = one_left (drop (length xs - 1) xs) l in
    record {
      back = r.0;
      is = sym (take-append-drop (length xs - 1) xs) ∙ ap (λ z. all_but_last xs ++ z) r.1;
      alone = r.1;
    }

-- without the last that was added
pub but_last_push : {X : Type 0} (xs : List X) (y : X) → all_but_last (xs ++ y ∷ []) ≡ xs
but_last_push xs y =
    let l = length_push xs y in
    take_at xs (y ∷ []) (length (xs ++ y ∷ []) - 1) (omega arith)

-- the last that was added
pub last_push : {X : Type 0} (xs : List X) (y : X) → last_alone (xs ++ y ∷ []) ≡ y ∷ []
last_push xs y =
    let l = length_push xs y in
    drop_at xs (y ∷ []) (length (xs ++ y ∷ []) - 1) (omega arith)

-- the element that was added last
pub get_d_last : {X : Type 0} (xs : List X) (y d : X) → get_or (xs ++ y ∷ []) (length (xs ++ y ∷ []) - 1) d ≡ y
get_d_last xs y d =
    let l = length_push xs y in
    get_or_push xs y d (length (xs ++ y ∷ []) - 1) (omega arith)

-- one fewer
pub length_but_last : {X : Type 0} (xs : List X) → length (all_but_last xs) ≡ length xs - 1
length_but_last xs = length-take-le (length xs - 1) xs (omega arith)
