-- A list whose elements are written in another form, where the tests and the numbers are those of the elements: what is kept,
-- undominated or rising of it is that of the list, written so. Assumes nothing.
use Rattle.std.proofs.Common.{◌≡◌, ℕ, Bool, true, false, cond, not, ◌&&◌, ◌||◌, leb, List, [], ◌∷◌, map, refl, ap, ◌∙◌}
use mathlib.Core.List.Memᴰ
use Rattle.drawing.specs.Lists.{all, keep}
use Rattle.pricing.specs.Lists.{some_is}
use Rattle.frontier.specs.Lists.{◌∈◌, put, equals, spares, distinct, unbeaten, undominated, place, rising}
use Rattle.frontier.proofs.Members.{keep_in}

-- two functions that agree on the elements of a list
pub map_agree : {A B : Type 0} (f g : A → B) (xs : List A) → ((x : A) → x ∈ xs → f x ≡ g x) → map f xs ≡ map g xs
map_agree f g [] h = refl
map_agree f g (x ∷ xs) h =
    let e = h x (Memᴰ.head refl) in
    let rest = map_agree f g xs (λ y i. h y (Memᴰ.tail i)) in
    λ i. e i ∷ rest i

-- one function after another
pub map_after : {A B C : Type 0} (g : B → C) (f : A → B) (xs : List A) → map (λ x. g (f x)) xs ≡ map g (map f xs)
map_after g f [] = refl
map_after g f (x ∷ xs) = ap (λ zs. g (f x) ∷ zs) (map_after g f xs)

module _ {A B : Type 0} (up : A → B) where
  -- a test that every element passes
  all_image : (f : A → Bool) (g : B → Bool) (xs : List A) → ((x : A) → x ∈ xs → g (up x) ≡ f x) → all g (map up xs) ≡ all f xs
  all_image f g [] h = refl
  all_image f g (x ∷ xs) h =
      let e = h x (Memᴰ.head refl) in
      let rest = all_image f g xs (λ y i. h y (Memᴰ.tail i)) in
      λ i. e i && rest i

  -- a test that some element passes
  some_image : (f : A → Bool) (g : B → Bool) (xs : List A) → ((x : A) → x ∈ xs → g (up x) ≡ f x) → some_is g (map up xs) ≡ some_is f xs
  some_image f g [] h = refl
  some_image f g (x ∷ xs) h =
      let e = h x (Memᴰ.head refl) in
      let rest = some_image f g xs (λ y i. h y (Memᴰ.tail i)) in
      λ i. e i || rest i

  -- one put in front where a test passes
  put_image : (b : Bool) (x : A) (xs : List A) → put b (up x) (map up xs) ≡ map up (put b x xs)
  put_image true x xs = refl
  put_image false x xs = refl

  -- the elements that pass a test
  keep_image : (f : A → Bool) (g : B → Bool) (xs : List A) → ((x : A) → x ∈ xs → g (up x) ≡ f x) → keep g (map up xs) ≡ map up (keep f xs)
  keep_image f g [] h = refl
  keep_image f g (x ∷ xs) h =
      let e = h x (Memᴰ.head refl) in
      let rest = keep_image f g xs (λ y i. h y (Memᴰ.tail i)) in
      (λ i. put (e i) (up x) (rest i)) ∙ put_image (f x) x (keep f xs)

  module _ (le : A → A → Bool) (le' : B → B → Bool) where
    -- equals dropped
    distinct_image : (xs : List A) → ((x y : A) → x ∈ xs → y ∈ xs → le' (up x) (up y) ≡ le x y) → distinct le' (map up xs) ≡ map up (distinct le xs)
    distinct_image [] h = refl
    distinct_image (x ∷ xs) h =
        let same : some_is (equals le' (up x)) (map up xs) ≡ some_is (equals le x) xs =
        some_image (equals le x) (equals le' (up x)) xs (λ y k.
        let xy = h x y (Memᴰ.head refl) (Memᴰ.tail k) in
        let yx = h y x (Memᴰ.tail k) (Memᴰ.head refl) in
        λ i. xy i && yx i) in
        let rest = distinct_image xs (λ y z i j. h y z (Memᴰ.tail i) (Memᴰ.tail j)) in
        (λ i. put (not (same i)) (up x) (rest i)) ∙ put_image (not (some_is (equals le x) xs)) x (distinct le xs)

    -- an element that nothing else is at or below
    unbeaten_image : (xs : List A) → ((x y : A) → x ∈ xs → y ∈ xs → le' (up x) (up y) ≡ le x y) → (x : A) → x ∈ xs →
        unbeaten le' (map up xs) (up x) ≡ unbeaten le xs x
    unbeaten_image xs h x i =
        all_image (spares le x) (spares le' (up x)) xs (λ y j.
        let yx = h y x j i in
        let xy = h x y i j in
        λ t. not (yx t) || xy t)

    -- what nothing else is at or below
    pub undominated_image : (xs : List A) → ((x y : A) → x ∈ xs → y ∈ xs → le' (up x) (up y) ≡ le x y) →
        undominated le' (map up xs) ≡ map up (undominated le xs)
    undominated_image xs h =
        ap (distinct le') (keep_image (unbeaten le xs) (unbeaten le' (map up xs)) xs (unbeaten_image xs h))
        ∙ distinct_image (keep (unbeaten le xs) xs) (λ x y i j. h x y (keep_in (unbeaten le xs) xs i).0 (keep_in (unbeaten le xs) xs j).0)

  module _ (key : A → ℕ) (key' : B → ℕ) (same : (x : A) → key' (up x) ≡ key x) where
    -- one put in its place
    place_image : (x : A) (ys : List A) → place key' (up x) (map up ys) ≡ map up (place key x ys)
    place_image x [] = refl
    place_image x (y ∷ ys) =
        let rest = place_image x ys in
        (λ i. cond (leb (same x i) (same y i)) (up x ∷ up y ∷ map up ys) (up y ∷ rest i)) ∙ chosen (leb (key x) (key y))
      where
        chosen : (b : Bool) → cond b (up x ∷ up y ∷ map up ys) (up y ∷ map up (place key x ys)) ≡ map up (cond b (x ∷ y ∷ ys) (y ∷ place key x ys))
        chosen true = refl
        chosen false = refl

    -- in rising order of a number
    pub rising_image : (xs : List A) → rising key' (map up xs) ≡ map up (rising key xs)
    rising_image [] = refl
    rising_image (x ∷ xs) = ap (place key' (up x)) (rising_image xs) ∙ place_image x (rising key xs)
