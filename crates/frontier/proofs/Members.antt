-- Tests on lists against what stands in them. Assumes nothing.
use Rattle.std.proofs.Common.{◌≡◌, Bool, true, false, not, ◌&&◌, ◌||◌, ◌⊎◌, List, [], ◌∷◌, map, sym, refl, ap, ◌∙◌, subst, inl, inr}
use mathlib.Core.List.Memᴰ
use mathlib.Core.List.{Memᴰ}
use borrow.Author.Tests.{clash}
use Rattle.drawing.specs.Lists.{all, keep}
use Rattle.pricing.specs.Lists.{some_is}
use Rattle.frontier.specs.Lists.{put, each, ◌∈◌}

-- what `and` says of its first part
pub and_left : (a b : Bool) → a && b ≡ true → a ≡ true
and_left true b t = refl
and_left false b t = t

-- what `and` says of its second part
pub and_right : (a b : Bool) → a && b ≡ true → b ≡ true
and_right true b t = t
and_right false b t = absurd (clash t)

-- `and` of what passes passes
pub and_both : (a b : Bool) → a ≡ true → b ≡ true → a && b ≡ true
and_both true b s t = t
and_both false b s t = s

-- a test passes, or its opposite does
pub either : (b : Bool) → (b ≡ true) ⊎ (not b ≡ true)
either true = inl refl
either false = inr refl

-- a test and its opposite do not both pass
pub never_both : (b : Bool) → not b ≡ true → b ≡ true → ⊥
never_both true t s = clash t
never_both false t s = clash s

-- one part of an `or` that passes passes
pub or_cases : (a b : Bool) → a || b ≡ true → (a ≡ true) ⊎ (b ≡ true)
or_cases true b t = inl refl
or_cases false b t = inr t

-- `or` passes where its first part does
pub or_left : (a b : Bool) → a ≡ true → a || b ≡ true
or_left true b t = refl
or_left false b t = absurd (clash t)

-- `or` passes where its second part does
pub or_right : (a b : Bool) → b ≡ true → a || b ≡ true
or_right true b t = refl
or_right false b t = t

-- `not a || b` is an implication
pub implies : (a b : Bool) → not a || b ≡ true → a ≡ true → b ≡ true
implies true b t s = t
implies false b t s = absurd (clash s)

-- and the other way
pub implied : (a b : Bool) → (a ≡ true → b ≡ true) → not a || b ≡ true
implied true b f = f refl
implied false b f = refl

-- an implication that fails has a premise that passes
pub not_implied : (a b : Bool) → not (not a || b) ≡ true → a ≡ true
not_implied true b t = refl
not_implied false b t = absurd (clash t)

module _ {A : Type 0} where
  -- a test that every element passes, at one of them
  pub all_in : (f : A → Bool) {x : A} {xs : List A} → x ∈ xs → all f xs ≡ true → f x ≡ true
  all_in f (Memᴰ.head {x = y} {xs = ys} e) t = subst (λ z. f z ≡ true) (sym e) (and_left (f y) (all f ys) t)
  all_in f (Memᴰ.tail {x = y} {xs = ys} i) t = all_in f i (and_right (f y) (all f ys) t)

  -- and the other way
  pub all_make : (f : A → Bool) (xs : List A) → ((x : A) → x ∈ xs → f x ≡ true) → all f xs ≡ true
  all_make f [] h = refl
  all_make f (x ∷ xs) h = and_both (f x) (all f xs) (h x (Memᴰ.head refl)) (all_make f xs (λ y i. h y (Memᴰ.tail i)))

  -- some element passes a test
  pub some_in : (f : A → Bool) (xs : List A) → some_is f xs ≡ true → (x : A) × (x ∈ xs) × (f x ≡ true)
  some_in f [] t = absurd (clash t)
  some_in f (x ∷ xs) t = go (or_cases (f x) (some_is f xs) t) (some_in f xs)
    where
      go : (f x ≡ true) ⊎ (some_is f xs ≡ true) → (some_is f xs ≡ true → (y : A) × (y ∈ xs) × (f y ≡ true)) → (y : A) × (y ∈ (x ∷ xs)) × (f y ≡ true)
      go (inl s) rest = (x, Memᴰ.head refl, s)
      go (inr s) rest = let r = rest s in (r.0, Memᴰ.tail r.1, r.2)

  -- and the other way
  pub some_make : (f : A → Bool) {x : A} {xs : List A} → x ∈ xs → f x ≡ true → some_is f xs ≡ true
  some_make f (Memᴰ.head {x = y} {xs = ys} e) t = or_left (f y) (some_is f ys) (subst (λ z. f z ≡ true) e t)
  some_make f (Memᴰ.tail {x = y} {xs = ys} i) t = or_right (f y) (some_is f ys) (some_make f i t)

  -- what stands in a list with one put in front where a test passes
  pub put_in : (b : Bool) (y : A) (ys : List A) {x : A} → x ∈ put b y ys → ((x ≡ y) × (b ≡ true)) ⊎ (x ∈ ys)
  put_in true y ys (Memᴰ.head e) = inl (e, refl)
  put_in true y ys (Memᴰ.tail i) = inr i
  put_in false y ys i = inr i

  -- the one in front stands in it
  pub put_head : (b : Bool) (y : A) (ys : List A) {x : A} → x ≡ y → b ≡ true → x ∈ put b y ys
  put_head true y ys e t = Memᴰ.head e
  put_head false y ys e t = absurd (clash t)

  -- and so do the others
  pub put_tail : (b : Bool) (y : A) (ys : List A) {x : A} → x ∈ ys → x ∈ put b y ys
  put_tail true y ys i = Memᴰ.tail i
  put_tail false y ys i = i

  -- what is kept stands in the list and passes the test
  pub keep_in : (f : A → Bool) (xs : List A) {x : A} → x ∈ keep f xs → (x ∈ xs) × (f x ≡ true)
  keep_in f [] i = elim i [ ]
  keep_in f (y ∷ ys) {x} i = go (put_in (f y) y (keep f ys) i) (keep_in f ys)
    where
      go : ((x ≡ y) × (f y ≡ true)) ⊎ (x ∈ keep f ys) → (x ∈ keep f ys → (x ∈ ys) × (f x ≡ true)) → (x ∈ (y ∷ ys)) × (f x ≡ true)
      go (inl h) rest = (Memᴰ.head h.0, subst (λ z. f z ≡ true) (sym h.0) h.1)
      go (inr h) rest = (Memᴰ.tail (rest h).0, (rest h).1)

  -- and the other way
  pub keep_make : (f : A → Bool) {x : A} {xs : List A} → x ∈ xs → f x ≡ true → x ∈ keep f xs
  keep_make f (Memᴰ.head {x = y} {xs = ys} e) t = put_head (f y) y (keep f ys) e (subst (λ z. f z ≡ true) e t)
  keep_make f (Memᴰ.tail {x = y} {xs = ys} i) t = put_tail (f y) y (keep f ys) (keep_make f i t)

  -- a list of which nothing stands in it
  pub empty_of : (xs : List A) → ((x : A) → x ∈ xs → ⊥) → xs ≡ []
  empty_of [] h = refl
  empty_of (x ∷ xs) h = absurd (h x (Memᴰ.head refl))

  -- nothing stands in an empty list
  pub none_in : {x : A} (xs : List A) → xs ≡ [] → x ∈ xs → ⊥
  none_in {x = x} xs e i = elim (subst (λ zs. x ∈ zs) e i) [ ]

module _ {A B : Type 0} where
  -- what stands in the lists of all elements
  pub each_in : (f : A → List B) (xs : List A) {y : B} → y ∈ each f xs → (x : A) × (x ∈ xs) × (y ∈ f x)
  each_in f [] i = elim i [ ]
  each_in f (x ∷ xs) {y} i = go (Memᴰ.append_cases (f x) i) (each_in f xs)
    where
      go : (y ∈ f x) ⊎ (y ∈ each f xs) → (y ∈ each f xs → (z : A) × (z ∈ xs) × (y ∈ f z)) → (z : A) × (z ∈ (x ∷ xs)) × (y ∈ f z)
      go (inl h) rest = (x, Memᴰ.head refl, h)
      go (inr h) rest = let r = rest h in (r.0, Memᴰ.tail r.1, r.2)

  -- and the other way
  pub each_make : (f : A → List B) {x : A} {xs : List A} {y : B} → x ∈ xs → y ∈ f x → y ∈ each f xs
  each_make f {y = y} (Memᴰ.head {x = z} {xs = zs} e) i = Memᴰ.append_left (each f zs) (subst (λ u. y ∈ f u) e i)
  each_make f (Memᴰ.tail {x = z} {xs = zs} j) i = Memᴰ.append_right (f z) (each_make f j i)

  -- what stands in a mapped list
  pub map_in : (f : A → B) (xs : List A) {y : B} → y ∈ map f xs → (x : A) × (x ∈ xs) × (y ≡ f x)
  map_in f [] i = elim i [ ]
  map_in f (x ∷ xs) (Memᴰ.head e) = (x, Memᴰ.head refl, e)
  map_in f (x ∷ xs) (Memᴰ.tail i) = let r = map_in f xs i in (r.0, Memᴰ.tail r.1, r.2)

  -- and the other way
  pub map_make : (f : A → B) {x : A} {xs : List A} {y : B} → x ∈ xs → y ≡ f x → y ∈ map f xs
  map_make f (Memᴰ.head e) h = Memᴰ.head (h ∙ ap f e)
  map_make f (Memᴰ.tail i) h = Memᴰ.tail (map_make f i h)
