-- What nothing else is at or below: every element has such a one at or below it, and dropping the others loses nothing.
-- Assumes nothing.
use Rattle.std.proofs.Common.{◌≡◌, Bool, true, not, ◌⊎◌, List, [], ◌∷◌, refl, ◌∙◌, inl, inr}
use mathlib.Core.List.Memᴰ
use mathlib.Core.List.{Memᴰ}
use Rattle.drawing.specs.Lists.{keep}
use Rattle.pricing.specs.Lists.{some_is}
use Rattle.frontier.specs.Lists.{equals, spares, distinct, unbeaten, undominated, ◌∈◌}
use Rattle.frontier.proofs.Members.{and_left, and_right, and_both, either, implies, implied, not_implied, all_in, all_make, some_in, put_in, put_head, put_tail, keep_in, keep_make}

-- a test that orders the values that are good
pub record Orders {A : Type 0} (le : A → A → Bool) (Good : A → Type 0) : Type 0 where
  pub same : (x : A) → Good x → le x x ≡ true
  pub through : (x y z : A) → Good x → Good y → Good z → le x y ≡ true → le y z ≡ true → le x z ≡ true
  pub one : (x y : A) → Good x → Good y → le x y ≡ true → le y x ≡ true → x ≡ y

module _ {A : Type 0} (le : A → A → Bool) where
  -- what is left stood in the list
  pub distinct_in : (xs : List A) {x : A} → x ∈ distinct le xs → x ∈ xs
  distinct_in [] i = elim i [ ]
  distinct_in (y ∷ ys) {x} i = go (put_in (not (some_is (equals le y) ys)) y (distinct le ys) i) (distinct_in ys)
    where
      go : ((x ≡ y) × (not (some_is (equals le y) ys) ≡ true)) ⊎ (x ∈ distinct le ys) → (x ∈ distinct le ys → x ∈ ys) → x ∈ (y ∷ ys)
      go (inl h) rest = Memᴰ.head h.0
      go (inr h) rest = Memᴰ.tail (rest h)

module _ {A : Type 0} (le : A → A → Bool) {Good : A → Type 0} (o : Orders le Good) where
  -- an element that is dropped for its equal is that equal
  distinct_make : (xs : List A) → ((x : A) → x ∈ xs → Good x) → {x : A} → x ∈ xs → x ∈ distinct le xs
  distinct_make [] good i = elim i [ ]
  distinct_make (y ∷ ys) good {x} (Memᴰ.head e) = go (either (some_is (equals le y) ys)) (λ z j. distinct_make ys (λ u k. good u (Memᴰ.tail k)) {x = z} j)
    where
      go : (some_is (equals le y) ys ≡ true) ⊎ (not (some_is (equals le y) ys) ≡ true) → ((z : A) → z ∈ ys → z ∈ distinct le ys) → x ∈ distinct le (y ∷ ys)
      go (inl t) rest =
          let r = some_in (equals le y) ys t in
          let z = r.0 in
          let same : y ≡ z = o.one y z (good y (Memᴰ.head refl)) (good z (Memᴰ.tail r.1)) (and_left (le y z) (le z y) r.2) (and_right (le y z) (le z y) r.2) in
          put_tail (not (some_is (equals le y) ys)) y (distinct le ys) (rest x (Memᴰ.cast (e ∙ same) r.1))
      go (inr t) rest = put_head (not (some_is (equals le y) ys)) y (distinct le ys) e t
  distinct_make (y ∷ ys) good (Memᴰ.tail i) =
      put_tail (not (some_is (equals le y) ys)) y (distinct le ys) (distinct_make ys (λ u k. good u (Memᴰ.tail k)) i)

  -- what is undominated stands in the list and is unbeaten
  pub front_in : (xs : List A) {x : A} → x ∈ undominated le xs → (x ∈ xs) × (unbeaten le xs x ≡ true)
  front_in xs i = keep_in (unbeaten le xs) xs (distinct_in le (keep (unbeaten le xs) xs) i)

  -- and the other way
  pub front_make : (xs : List A) → ((x : A) → x ∈ xs → Good x) → {x : A} → x ∈ xs → unbeaten le xs x ≡ true → x ∈ undominated le xs
  front_make xs good i t =
      distinct_make (keep (unbeaten le xs) xs) (λ y j. good y (keep_in (unbeaten le xs) xs j).0) (keep_make (unbeaten le xs) i t)

  -- some element of xs at or below x that nothing else of ys is at or below
  descend : (xs : List A) → ((x : A) → x ∈ xs → Good x) → (ys : List A) → ((y : A) → y ∈ ys → y ∈ xs) → (x : A) → x ∈ xs → (y : A) × (y ∈ xs) × (le y x ≡ true) × (unbeaten le ys y ≡ true)
  descend xs good [] sub x i = (x, i, o.same x (good x i), refl)
  descend xs good (z ∷ ys) sub x i = go (descend xs good ys (λ u k. sub u (Memᴰ.tail k)) x i)
    where
      go : (y : A) × (y ∈ xs) × (le y x ≡ true) × (unbeaten le ys y ≡ true) → (y : A) × (y ∈ xs) × (le y x ≡ true) × (unbeaten le (z ∷ ys) y ≡ true)
      go (y, j, below, top) = choose (either (spares le y z))
        where
          k : z ∈ xs
          k = sub z (Memᴰ.head refl)

          choose : (spares le y z ≡ true) ⊎ (not (spares le y z) ≡ true) → (u : A) × (u ∈ xs) × (le u x ≡ true) × (unbeaten le (z ∷ ys) u ≡ true)
          choose (inl t) = (y, j, below, and_both (spares le y z) (unbeaten le ys y) t top)
          choose (inr t) =
              let zy : le z y ≡ true = not_implied (le z y) (le y z) t in
              let rest : unbeaten le ys z ≡ true =
              all_make (spares le z) ys (λ u q.
              let gu = good u (sub u (Memᴰ.tail q)) in
              implied (le u z) (le z u) (λ uz.
              let uy = o.through u z y gu (good z k) (good y j) uz zy in
              let yu = implies (le u y) (le y u) (all_in (spares le y) q top) uy in
              o.through z y u (good z k) (good y j) gu zy yu)) in
              (z, k, o.through z y x (good z k) (good y j) (good x i) zy below, and_both (spares le z z) (unbeaten le ys z) (implied (le z z) (le z z) (λ s. s)) rest)

  -- every element of a finite list has one at or below it that nothing else is at or below
  pub front_covers : (xs : List A) → ((x : A) → x ∈ xs → Good x) → {x : A} → x ∈ xs → (y : A) × (y ∈ undominated le xs) × (le y x ≡ true)
  front_covers xs good {x} i =
      let r = descend xs good xs (λ y j. j) x i in
      (r.0, front_make xs good r.1 r.3, r.2)

  -- a part that still has one at or below each element has the same front
  module _ (all_of part : List A) (good : (x : A) → x ∈ all_of → Good x) (sub : (x : A) → x ∈ part → x ∈ all_of) (covers : (x : A) → x ∈ all_of → (y : A) × (y ∈ part) × (le y x ≡ true)) where
    -- what is undominated in the whole is so in the part
    pub front_to : {x : A} → x ∈ undominated le all_of → x ∈ undominated le part
    front_to {x} i =
        let h = front_in all_of i in
        let c = covers x h.0 in
        let y = c.0 in
        let yin = sub y c.1 in
        let xy : le x y ≡ true = implies (le y x) (le x y) (all_in (spares le x) yin h.1) c.2 in
        let e : x ≡ y = o.one x y (good x h.0) (good y yin) xy c.2 in
        front_make part (λ u k. good u (sub u k)) (Memᴰ.cast e c.1) (all_make (spares le x) part (λ v k. all_in (spares le x) (sub v k) h.1))

    -- what is undominated in the part is so in the whole
    pub front_from : {x : A} → x ∈ undominated le part → x ∈ undominated le all_of
    front_from {x} i =
        let h = front_in part i in
        let xin = sub x h.0 in
        front_make all_of good xin (all_make (spares le x) all_of (λ v k.
        implied (le v x) (le x v) (λ vx.
        let c = covers v k in
        let y = c.0 in
        let yin = sub y c.1 in
        let yx = o.through y v x (good y yin) (good v k) (good x xin) c.2 vx in
        let xy : le x y ≡ true = implies (le y x) (le x y) (all_in (spares le x) c.1 h.1) yx in
        o.through x y v (good x xin) (good y yin) (good v k) xy c.2)))
