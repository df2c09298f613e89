-- Lists in rising order of a number: what the sorting holds, and that a strictly rising list is known by its members.
-- Assumes nothing.
use Rattle.std.proofs.Common.{◌≡◌, ℕ, ◌<◌, ◌≤◌, Bool, true, false, cond, not, leb, ◌⊎◌, List, [], ◌∷◌, sym, refl, ap, ◌∙◌, inl, inr, arith}
use mathlib.Core.List.Memᴰ
use mathlib.Core.List.{Memᴰ}
use Rattle.std.proofs.lemmas.Bool.{leb-true, leb-false, not-true}
use Rattle.pricing.specs.Lists.{some_is}
use Rattle.frontier.specs.Lists.{◌∈◌, put, equals, distinct, place, rising, Rising}
use Rattle.frontier.proofs.Members.{never_both, some_make}
use Rattle.frontier.proofs.Fronts.{distinct_in}

module _ {A : Type 0} (key : A → ℕ) where
  -- what stands in a list with one put in its place
  place_in : (x : A) (ys : List A) {z : A} → z ∈ place key x ys → (z ≡ x) ⊎ (z ∈ ys)
  place_in x [] i = Memᴰ.cases_cons i
  place_in x (y ∷ ys) {z} i = go (leb (key x) (key y)) i (place_in x ys)
    where
      after : (z ≡ y) ⊎ (z ∈ place key x ys) → (z ∈ place key x ys → (z ≡ x) ⊎ (z ∈ ys)) → (z ≡ x) ⊎ (z ∈ (y ∷ ys))
      after (inl e) rest = inr (Memᴰ.head e)
      after (inr j) rest = deeper (rest j)
        where
          deeper : (z ≡ x) ⊎ (z ∈ ys) → (z ≡ x) ⊎ (z ∈ (y ∷ ys))
          deeper (inl e) = inl e
          deeper (inr k) = inr (Memᴰ.tail k)

      go : (b : Bool) → z ∈ cond b (x ∷ y ∷ ys) (y ∷ place key x ys) → (z ∈ place key x ys → (z ≡ x) ⊎ (z ∈ ys)) → (z ≡ x) ⊎ (z ∈ (y ∷ ys))
      go true j rest = Memᴰ.cases_cons j
      go false j rest = after (Memᴰ.cases_cons j) rest

  -- the one that was put stands in it
  place_new : (x : A) (ys : List A) {z : A} → z ≡ x → z ∈ place key x ys
  place_new x [] e = Memᴰ.head e
  place_new x (y ∷ ys) {z} e = go (leb (key x) (key y)) (place_new x ys e)
    where
      go : (b : Bool) → z ∈ place key x ys → z ∈ cond b (x ∷ y ∷ ys) (y ∷ place key x ys)
      go true j = Memᴰ.head e
      go false j = Memᴰ.tail j

  -- and so do the others
  place_old : (x : A) (ys : List A) {z : A} → z ∈ ys → z ∈ place key x ys
  place_old x [] i = elim i [ ]
  place_old x (y ∷ ys) {z} i = go (leb (key x) (key y)) (Memᴰ.cases_cons i) (place_old x ys)
    where
      go : (b : Bool) → (z ≡ y) ⊎ (z ∈ ys) → (z ∈ ys → z ∈ place key x ys) → z ∈ cond b (x ∷ y ∷ ys) (y ∷ place key x ys)
      go true j rest = Memᴰ.tail i
      go false (inl e) rest = Memᴰ.head e
      go false (inr j) rest = Memᴰ.tail (rest j)

  -- sorting adds nothing
  pub rising_in : (xs : List A) {z : A} → z ∈ rising key xs → z ∈ xs
  rising_in [] i = i
  rising_in (x ∷ xs) {z} i = go (place_in x (rising key xs) i) (rising_in xs)
    where
      go : (z ≡ x) ⊎ (z ∈ rising key xs) → (z ∈ rising key xs → z ∈ xs) → z ∈ (x ∷ xs)
      go (inl e) rest = Memᴰ.head e
      go (inr j) rest = Memᴰ.tail (rest j)

  -- sorting loses nothing
  pub rising_make : {z : A} {xs : List A} → z ∈ xs → z ∈ rising key xs
  rising_make (Memᴰ.head {x = x} {xs = xs} e) = place_new x (rising key xs) e
  rising_make (Memᴰ.tail {x = x} {xs = xs} i) = place_old x (rising key xs) (rising_make i)

  -- no two have the same number
  abbrev pub Apart : List A → Type 0
  Apart [] = Unit {0}
  Apart (x ∷ xs) = ((y : A) → y ∈ xs → key x ≡ key y → ⊥) × Apart xs

  -- one put in its place among others keeps the list rising
  place_rises : (x : A) (ys : List A) → Rising key ys → ((y : A) → y ∈ ys → key x ≡ key y → ⊥) → Rising key (place key x ys)
  place_rises x [] r apart = ((λ y i. elim i [ ]), tt)
  place_rises x (y ∷ ys) r apart = go (leb (key x) (key y)) (leb-true (key x) (key y)) (λ t. leb-false (key x) (key y) (not-true (leb (key x) (key y)) t)) (place_rises x ys r.1 (λ z i. apart z (Memᴰ.tail i)))
    where
      here : key x ≤ key y → (z : A) → (z ≡ y) ⊎ (z ∈ ys) → key x < key z
      here h z (inl e) = let n = apart y (Memᴰ.head refl) in let k : key z ≡ key y = ap key e in omega arith
      here h z (inr i) = let k = r.0 z i in omega arith

      there : key y < key x → (z : A) → (z ≡ x) ⊎ (z ∈ ys) → key y < key z
      there h z (inl e) = let k : key z ≡ key x = ap key e in omega arith
      there h z (inr i) = r.0 z i

      go : (b : Bool) → (b ≡ true → key x ≤ key y) → (not b ≡ true → key y < key x) → Rising key (place key x ys) → Rising key (cond b (x ∷ y ∷ ys) (y ∷ place key x ys))
      go true low high rest = ((λ z i. here (low refl) z (Memᴰ.cases_cons i)), r)
      go false low high rest = ((λ z i. there (high refl) z (place_in x ys i)), rest)

  -- a sorted list rises strictly where no two have the same number
  pub rising_rises : (xs : List A) → Apart xs → Rising key (rising key xs)
  rising_rises [] h = tt
  rising_rises (x ∷ xs) h = place_rises x (rising key xs) (rising_rises xs h.1) (λ y i. h.0 y (rising_in xs i))

  -- two strictly rising lists with the same members are one
  pub same_rising : (xs ys : List A) → Rising key xs → Rising key ys → ((z : A) → z ∈ xs → z ∈ ys) → ((z : A) → z ∈ ys → z ∈ xs) → xs ≡ ys
  same_rising [] [] r s to from = refl
  same_rising [] (y ∷ ys) r s to from = absurd (elim (from y (Memᴰ.head refl)) [ ])
  same_rising (x ∷ xs) [] r s to from = absurd (elim (to x (Memᴰ.head refl)) [ ])
  same_rising (x ∷ xs) (y ∷ ys) r s to from =
      let e : x ≡ y = heads (Memᴰ.cases_cons (to x (Memᴰ.head refl))) (Memᴰ.cases_cons (from y (Memᴰ.head refl))) in
      let rest : xs ≡ ys = same_rising xs ys r.1 s.1 (λ z i. down e z i (Memᴰ.cases_cons (to z (Memᴰ.tail i)))) (λ z i. up e z i (Memᴰ.cases_cons (from z (Memᴰ.tail i)))) in
      λ i. e i ∷ rest i
    where
      heads : (x ≡ y) ⊎ (x ∈ ys) → (y ≡ x) ⊎ (y ∈ xs) → x ≡ y
      heads (inl e) h = e
      heads (inr i) (inl e) = sym e
      heads (inr i) (inr j) = let a = s.0 x i in let b = r.0 y j in absurd (omega arith)

      down : x ≡ y → (z : A) → z ∈ xs → (z ≡ y) ⊎ (z ∈ ys) → z ∈ ys
      down e z i (inl f) = let a = r.0 z i in let k : key z ≡ key x = ap key (f ∙ sym e) in absurd (omega arith)
      down e z i (inr j) = j

      up : x ≡ y → (z : A) → z ∈ ys → (z ≡ x) ⊎ (z ∈ xs) → z ∈ xs
      up e z i (inl f) = let a = s.0 z i in let k : key z ≡ key y = ap key (f ∙ e) in absurd (omega arith)
      up e z i (inr j) = j

  -- after equals are dropped no two have the same number, where the same number means equal
  pub distinct_apart : (le : A → A → Bool) (xs : List A) → ((x y : A) → x ∈ xs → y ∈ xs → key x ≡ key y → equals le x y ≡ true) → Apart (distinct le xs)
  distinct_apart le [] h = tt
  distinct_apart le (x ∷ xs) h = go (some_is (equals le x) xs) fresh (distinct_apart le xs (λ y z i j. h y z (Memᴰ.tail i) (Memᴰ.tail j)))
    where
      fresh : not (some_is (equals le x) xs) ≡ true → (y : A) → y ∈ distinct le xs → key x ≡ key y → ⊥
      fresh t y i e =
          let j = distinct_in le xs i in
          never_both (some_is (equals le x) xs) t (some_make (equals le x) j (h x y (Memᴰ.head refl) (Memᴰ.tail j) e))

      go : (b : Bool) → (not b ≡ true → (y : A) → y ∈ distinct le xs → key x ≡ key y → ⊥) → Apart (distinct le xs) → Apart (put (not b) x (distinct le xs))
      go true new rest = rest
      go false new rest = (new refl, rest)
