-- Moves inside a list whose first n elements count. Assumes nothing.
use Rattle.std.proofs.Common.{◌≡◌, ℕ, suc, ◌+◌, ◌-◌, ◌<◌, ◌≤◌, List, [], ◌∷◌, ◌++◌, length, take, drop, set, sym, ap, ◌∙◌, add-one, arith}
use borrow.Rule.Slice.PartMut.{put_mid}
use Rattle.std.specs.List.{insert, remove}
use Rattle.std.proofs.lemmas.List.{append_assoc, length-set, length-append, length-drop, length-take-le, length_push, take-take, take_at, take-set-le, take_more_set, drop_at, drop-drop, drop-append-le}
use Rattle.std.proofs.lemmas.Slice.{between_is, take-put_mid}

-- a part that ends in x, turned right by one
turned : {X : Type 0} (q : List X) (x : X) (p : List X) → p ≡ q ++ x ∷ []
    → drop (length p - 1) p ++ take (length p - 1) p ≡ x ∷ q
turned q x p e =
    let l : length p ≡ length q + 1 = ap length e ∙ length_push q x in
    let k : length p - 1 ≡ length q = omega arith in
    let k2 : length q ≡ length p - 1 = sym k in
    let a : drop (length p - 1) (q ++ x ∷ []) ≡ x ∷ [] = drop_at q (x ∷ []) (length p - 1) k2 in
    let b : take (length p - 1) (q ++ x ∷ []) ≡ q = take_at q (x ∷ []) (length p - 1) k2 in
    let c : drop (length p - 1) p ≡ x ∷ [] = ap (λ z. drop (length p - 1) z) e ∙ a in
    let d : take (length p - 1) p ≡ q = ap (λ z. take (length p - 1) z) e ∙ b in
    rw (c, d)

-- x written at the place n, and the part from i to n turned right by one: x is inserted at i
pub put_in : {X : Type 0} (xs ys : List X) (i n : ℕ) (x : X) → i ≤ n → n < length xs
    → (p : List X) → p ≡ take (n + 1 - i) (drop i (set xs n x)) → ys ≡ drop (length p - 1) p ++ take (length p - 1) p
    → take (n + 1) (put_mid i (n + 1 - i) (set xs n x) ys) ≡ insert (take n xs) i x
put_in xs ys i n x le lt p ep ey =
    let ln : length (take n xs) ≡ n = length-take-le n xs (omega arith) in
    let e1 : p ≡ drop i (take n xs ++ x ∷ []) = ep ∙ between_is (set xs n x) i (n + 1) ∙ ap (drop i) (take_more_set xs n x lt) in
    let e2 : p ≡ drop i (take n xs) ++ x ∷ [] = e1 ∙ drop-append-le i (take n xs) (x ∷ []) (omega arith) in
    let e3 : ys ≡ x ∷ drop i (take n xs) = ey ∙ turned (drop i (take n xs)) x p e2 in
    let ly : length ys ≡ suc (length (drop i (take n xs))) = ap length e3 in
    let ld = length-drop i (take n xs) in
    let lz = length-set xs n x in
    take-put_mid i (n + 1 - i) (set xs n x) ys (n + 1) (omega arith) (omega arith)
    ∙ ap (λ z. z ++ ys) (take-set-le i xs n x le ∙ sym (take-take i n xs le))
    ∙ ap (λ z. take i (take n xs) ++ z) e3

-- the part from i to the end turned left by one: the element at i is removed
pub take_out : {X : Type 0} (xs ys : List X) (i n : ℕ) → i < n → n ≤ length xs
    → (p : List X) → p ≡ take (n - i) (drop i xs) → ys ≡ drop 1 p ++ take 1 p
    → take (n - 1) (put_mid i (n - i) xs ys) ≡ remove (take n xs) i
take_out xs ys i n lt le p ep ey =
    let ln : length (take n xs) ≡ n = length-take-le n xs le in
    let li : length (take i xs) ≡ i = length-take-le i xs (omega arith) in
    let e1 : p ≡ drop i (take n xs) = ep ∙ between_is xs i n in
    let lp : length p ≡ n - i = ap length e1 ∙ length-drop i (take n xs) ∙ ap (λ z. z - i) ln in
    let ld : length (drop 1 p) ≡ length p - 1 = length-drop 1 p in
    let lt1 : length (take 1 p) ≡ 1 = length-take-le 1 p (omega arith) in
    let ly : length ys ≡ length (drop 1 p) + length (take 1 p) = ap length ey ∙ length-append (drop 1 p) (take 1 p) in
    let all : take n (put_mid i (n - i) xs ys) ≡ take i xs ++ ys = take-put_mid i (n - i) xs ys n (omega arith) (omega arith) in
    let la = length-append (take i xs) (drop 1 p) in
    sym (take-take (n - 1) n (put_mid i (n - i) xs ys) (omega arith))
    ∙ ap (take (n - 1)) (all ∙ ap (λ z. take i xs ++ z) ey ∙ sym (append_assoc (take i xs) (drop 1 p) (take 1 p)))
    ∙ take_at (take i xs ++ drop 1 p) (take 1 p) (n - 1) (omega arith)
    ∙ ap (λ z. z ++ drop 1 p) (sym (take-take i n xs (omega arith)))
    ∙ ap (λ z. take i (take n xs) ++ z) (ap (drop 1) e1 ∙ drop-drop 1 i (take n xs) ∙ ap (λ k. drop k (take n xs)) (add-one i))
