-- Texts put one after another. Assumes nothing.
use Rattle.std.proofs.Common.{◌≡◌, ℕ, ◌+◌, ◌<◌, ◌≤◌, List, [], ◌∷◌, ◌++◌, length, get_or, take, drop, Some, None, Option, sym, refl, ap, ◌∙◌, append_assoc, arith}
use Rattle.std.specs.List.{flat_map}
use Rattle.std.proofs.lemmas.List.{flat_map_more, take_more, take-append-drop, length-append}
use Rattle.drawing.specs.declared.words.Wire.{Wire}
use Rattle.text.specs.Lines.{placed}
use Rattle.text.proofs.Placed.{placed_placed}
use Rattle.writers.specs.Puts.{Puts}

-- one part more
pub parts_more : {X : Type 0} (f : X → List ℕ) (xs : List X) (i : ℕ) (d : X) → i < length xs
    → flat_map f (take (i + 1) xs) ≡ flat_map f (take i xs) ++ f (get_or xs i d)
parts_more f xs i d h = ap (flat_map f) (take_more xs i d h) ∙ sym (flat_map_more f [] (take i xs) (get_or xs i d))

-- how long one part more is
pub length_more : {X : Type 0} (f : X → List ℕ) (xs : List X) (i : ℕ) (d : X) → i < length xs
    → length (flat_map f (take (i + 1) xs)) ≡ length (flat_map f (take i xs)) + length (f (get_or xs i d))
length_more f xs i d h = ap length (parts_more f xs i d h) ∙ length-append (flat_map f (take i xs)) (f (get_or xs i d))

-- the parts of two lists in a row
joined_append : {X : Type 0} (f : X → List ℕ) (xs ys : List X) → flat_map f (xs ++ ys) ≡ flat_map f xs ++ flat_map f ys
joined_append f [] ys = refl
joined_append f (x ∷ xs) ys = ap (λ z. f x ++ z) (joined_append f xs ys) ∙ sym (append_assoc (f x) (flat_map f xs) (flat_map f ys))

-- the first parts are no longer than all of them
pub parts_le : {X : Type 0} (f : X → List ℕ) (xs : List X) (k : ℕ) → length (flat_map f (take k xs)) ≤ length (flat_map f xs)
parts_le f xs k =
    let e : flat_map f (take k xs) ++ flat_map f (drop k xs) ≡ flat_map f xs =
    sym (joined_append f (take k xs) (drop k xs)) ∙ ap (flat_map f) (take-append-drop k xs) in
    omega (arith, length-append (flat_map f (take k xs)) (flat_map f (drop k xs)), ap length e)

-- how long three texts in a row are
pub length_three : (h j e : List ℕ) → length (h ++ (j ++ e)) ≡ length h + (length j + length e)
length_three h j e = length-append h (j ++ e) ∙ ap (λ n. length h + n) (length-append j e)

-- a text put behind one that was put
pub behind : (t0 t1 t2 : List ℕ) (at n : ℕ) (s e : List ℕ) → t1 ≡ placed t0 at s → n ≡ at + length s → n + length e ≤ length t0
    → t2 ≡ placed t1 n e → t2 ≡ placed t0 at (s ++ e)
behind t0 t1 t2 at n s e p q le r = r ∙ (ap (λ t. placed t n e) p ∙ placed_placed t0 at s e n q le)

-- three texts, put one after another at the front
three_placed : (t0 t1 t2 t3 : List ℕ) (a b : ℕ) (h j e : List ℕ) → t1 ≡ placed t0 0 h → a ≡ length h → t2 ≡ placed t1 a j
    → b ≡ a + length j → t3 ≡ placed t2 b e → b + length e ≤ length t0 → t3 ≡ placed t0 0 (h ++ (j ++ e))
three_placed t0 t1 t2 t3 a b h j e p1 q1 p2 q2 p3 le =
    let both : t2 ≡ placed t0 0 (h ++ j) = behind t0 t1 t2 0 a h j p1 (omega arith) (omega arith) p2 in
    behind t0 t2 t3 0 b (h ++ j) e both (omega (arith, length-append h j)) le p3 ∙ ap (placed t0 0) (append_assoc h j e)

-- a third text is put behind two others, or does not fit
pub third_put : (r : Option ℕ) (t0 t1 t2 t3 : List ℕ) (a b : ℕ) (h j e : List ℕ) → t1 ≡ placed t0 0 h → a ≡ length h → t2 ≡ placed t1 a j
    → b ≡ a + length j → length t2 ≡ length t0
    → elim r as (λ (_ : Option ℕ). Type 0) [ Some n ↦ (n ≡ b + length e) × (n ≤ length t2) × (t3 ≡ placed t2 b e) | None ↦ (length t2 < b + length e) × (t3 ≡ t2) ]
    → Puts r (h ++ (j ++ e)) 0 t0 t3
third_put (Some n) t0 t1 t2 t3 a b h j e p1 q1 p2 q2 l x =
    (omega (arith, length_three h j e, x.0), omega (arith, x.1), three_placed t0 t1 t2 t3 a b h j e p1 q1 p2 q2 x.2 (omega (arith, x.0, x.1)))
third_put None t0 t1 t2 t3 a b h j e p1 q1 p2 q2 l x = omega (arith, length_three h j e, x.0)

-- a wire of noughts, where a list of wires has none
abbrev pub blank : Wire
blank = record { a = 0; b = 0; g = 0; d = 0; e = 0; k = 0; h = 0; t = 0 }
