-- One element more at the end of a list. Assumes nothing.
use Rattle.std.proofs.Common.{◌≡◌, ℕ, zero, suc, ◌+◌, Bool, true, List, [], ◌∷◌, ◌++◌, map, length, refl, ap, arith}
use Rattle.drawing.specs.declared.words.Wire.{Wire}
use Rattle.drawing.specs.Lists.{all}
use Rattle.pricing.specs.Lists.{total, from_left}
use Rattle.pricing.specs.Allocations.{lay}
use Rattle.frontier.specs.States.{last_of}
use Rattle.frontier.proofs.Members.{and_left, and_right, and_both}

-- the sum
pub total_snoc : (xs : List ℕ) (x : ℕ) → total (xs ++ (x ∷ [])) ≡ total xs + x
total_snoc [] x = omega arith
total_snoc (y ∷ ys) x = let h = total_snoc ys x in omega arith

-- the length
pub length_snoc : {A : Type 0} (xs : List A) (x : A) → length (xs ++ (x ∷ [])) ≡ suc (length xs)
length_snoc [] x = refl
length_snoc (y ∷ ys) x = ap suc (length_snoc ys x)

-- a mapped list
pub map_snoc : {A B : Type 0} (f : A → B) (xs : List A) (x : A) → map f (xs ++ (x ∷ [])) ≡ map f xs ++ (f x ∷ [])
map_snoc f [] x = refl
map_snoc f (y ∷ ys) x = ap (λ zs. f y ∷ zs) (map_snoc f ys x)

-- the elements taken in turn
pub from_left_snoc : {A B : Type 0} (f : B → A → B) (b : B) (xs : List A) (x : A) → from_left f b (xs ++ (x ∷ [])) ≡ f (from_left f b xs) x
from_left_snoc f b [] x = refl
from_left_snoc f b (y ∷ ys) x = from_left_snoc f (f b y) ys x

-- the last space
pub last_snoc : (l : ℕ) (ss : List ℕ) (r : ℕ) → last_of l (ss ++ (r ∷ [])) ≡ r
last_snoc l [] r = refl
last_snoc l (s ∷ ss) r = last_snoc s ss r

-- a test that every element passes
pub all_snoc_make : {A : Type 0} (f : A → Bool) (xs : List A) (x : A) → all f xs ≡ true → f x ≡ true → all f (xs ++ (x ∷ [])) ≡ true
all_snoc_make f [] x t s = and_both (f x) true s refl
all_snoc_make f (y ∷ ys) x t s = and_both (f y) (all f (ys ++ (x ∷ []))) (and_left (f y) (all f ys) t) (all_snoc_make f ys x (and_right (f y) (all f ys) t) s)

-- and the other way
pub all_snoc : {A : Type 0} (f : A → Bool) (xs : List A) (x : A) → all f (xs ++ (x ∷ [])) ≡ true → (all f xs ≡ true) × (f x ≡ true)
all_snoc f [] x t = (refl, and_left (f x) true t)
all_snoc f (y ∷ ys) x t =
    let h = all_snoc f ys x (and_right (f y) (all f (ys ++ (x ∷ []))) t) in
    (and_both (f y) (all f ys) (and_left (f y) (all f (ys ++ (x ∷ []))) t) h.0, h.1)

-- a list that is not empty, from its end
pub unsnoc : {A : Type 0} (n : ℕ) (xs : List A) → length xs ≡ suc n → (ys : List A) × (y : A) × (xs ≡ ys ++ (y ∷ [])) × (length ys ≡ n)
unsnoc n [] h = absurd (omega arith)
unsnoc zero (x ∷ []) h = ([], x, refl, refl)
unsnoc zero (x ∷ y ∷ xs) h = absurd (omega arith)
unsnoc (suc n) (x ∷ xs) h =
    let r = unsnoc n xs (omega arith) in
    (x ∷ r.0, r.1, ap (λ zs. x ∷ zs) r.2, ap suc r.3)

-- and from its start
pub uncons : {A : Type 0} (n : ℕ) (xs : List A) → length xs ≡ suc n → (y : A) × (ys : List A) × (xs ≡ y ∷ ys) × (length ys ≡ n)
uncons n [] h = absurd (omega arith)
uncons n (x ∷ xs) h = (x, xs, refl, omega arith)

-- the wires as they lie
pub lay_snoc : (qs : List Wire) (ws : List ℕ) (l : ℕ) (ss : List ℕ) (q : Wire) (w r : ℕ) → length ws ≡ length qs → length ss ≡ length qs →
    lay (qs ++ (q ∷ [])) (ws ++ (w ∷ [])) l (ss ++ (r ∷ [])) ≡ lay qs ws l ss ++ (record { wire = q; left = last_of l ss; width = w; right = r } ∷ [])
lay_snoc [] [] l [] q w r g h = refl
lay_snoc [] [] l (s ∷ ss) q w r g h = absurd (omega arith)
lay_snoc [] (v ∷ ws) l ss q w r g h = absurd (omega arith)
lay_snoc (p ∷ qs) [] l ss q w r g h = absurd (omega arith)
lay_snoc (p ∷ qs) (v ∷ ws) l [] q w r g h = absurd (omega arith)
lay_snoc (p ∷ qs) (v ∷ ws) l (s ∷ ss) q w r g h =
    ap (λ zs. record { wire = p; left = l; width = v; right = s } ∷ zs) (lay_snoc qs ws s ss q w r (omega arith) (omega arith))
