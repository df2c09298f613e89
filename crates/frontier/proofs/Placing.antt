-- Where a record belongs among others, and what it is to put it there. Assumes nothing.
use Rattle.std.specs.List.{prefix_len}
use Rattle.std.proofs.lemmas.List.{length-reverse}
use Rattle.std.proofs.lemmas.List.Sums.{prefix_len-le-length}
use Rattle.std.proofs.Common.{not, ◌≡◌, ℕ, zero, suc, ◌+◌, ◌-◌, ◌<◌, ◌≤◌, Bool, true, false, cond, ◌⊎◌, List, [], ◌∷◌, ◌++◌, reverse, length, get_or, take, drop, set, replicate, sym, refl, ap, ◌∙◌, inl, inr, le_of_suc-le-suc, not-suc-le-zero, add-one, arith}
use mathlib.Core.List.{reverse-append}
use borrow.Rule.Slice.PartMut.{put_mid}
use Rattle.std.specs.List.{insert, between}
use Rattle.std.proofs.lemmas.List.{append_assoc, drop_all, drop-set-lt, get_or_default, get_or-drop, length-drop, length-set, length-take-le, set_split, take-append-drop, take_all, take_more}
use Rattle.std.proofs.lemmas.Bool.{cases_lt}
use Rattle.std.proofs.lemmas.Slice.{drop-put_mid}
use Rattle.drawing.proofs.Moves.{put_in}
use Rattle.frontier.specs.Orders.{front_above, high_above, put_at, put_in_order}

module _ {A : Type 0} where
  -- one place more at the high end
  pub above_more : (order : A → A → Bool) (x : A) (xs : List A) (i : ℕ) (y : A) → i < length xs → y ≡ get_or xs i y →
      high_above order x (take (i + 1) xs) ≡ cond (order y x) 0 (high_above order x (take i xs) + 1)
  above_more order x xs i y lt read =
      let pushed : take (i + 1) xs ≡ take i xs ++ (y ∷ []) = take_more xs i y lt ∙ ap (λ z. take i xs ++ (z ∷ [])) (sym read) in
      ap (λ l. front_above order x (reverse l)) pushed ∙ ap (front_above order x) (reverse-append (take i xs) (y ∷ []))

  -- the same of the places from a on
  pub above_at : (order : A → A → Bool) (x : A) (xs : List A) (a i : ℕ) (y : A) → a < i → i ≤ length xs → y ≡ get_or xs (i - 1) y →
      high_above order x (between a i xs) ≡ cond (order y x) 0 (high_above order x (between a (i - 1) xs) + 1)
  above_at order x xs a i y lt high read =
      let n = i - 1 - a in
      let e : i - a ≡ n + 1 = omega arith in
      let at : a + n ≡ i - 1 = omega arith in
      let long : n < length (drop a xs) = let l = length-drop a xs in omega arith in
      let there : y ≡ get_or (drop a xs) n y = read ∙ ap (λ k. get_or xs k y) (sym at) ∙ sym (get_or-drop a xs n y) in
      ap (λ k. high_above order x (take k (drop a xs))) e ∙ above_more order x (drop a xs) n y long there

  -- the last record comes up to x: none stands above it
  pub above_stop : (order : A → A → Bool) (x : A) (xs : List A) (a i : ℕ) (y : A) → a < i → i ≤ length xs → y ≡ get_or xs (i - 1) y → order y x ≡ true →
      high_above order x (between a i xs) ≡ 0
  above_stop order x xs a i y lt high read up = above_at order x xs a i y lt high read ∙ ap (λ b. cond b 0 (high_above order x (between a (i - 1) xs) + 1)) up

  -- how many at the front do not come up to x is how long the front of such is
  pub front_prefix : (order : A → A → Bool) (x : A) (ys : List A) → prefix_len (λ y. not (order y x)) ys ≡ front_above order x ys
  front_prefix order x [] = refl
  front_prefix order x (y ∷ ys) = go (front_prefix order x ys) (order y x)
    where
      go : prefix_len (λ z. not (order z x)) ys ≡ front_above order x ys
          → (b : Bool) → cond (not b) (1 + prefix_len (λ z. not (order z x)) ys) 0 ≡ cond b 0 (front_above order x ys + 1)
      go t true = refl
      go t false = omega arith

  -- no more stand above x than there are
  pub above_most : (order : A → A → Bool) (x : A) (ys : List A) → high_above order x ys ≤ length ys
  above_most order x ys =
      let t = front_prefix order x (reverse ys) in
      let m = prefix_len-le-length (λ y. not (order y x)) (reverse ys) in
      let l = length-reverse ys in
      omega arith

  -- x put at the end
  pub put_last : (xs : List A) (n : ℕ) (x : A) → n < length xs → set xs n x ≡ put_at xs n n x
  put_last xs n x lt =
      let whole : take n (take n xs) ≡ take n xs = take_all n (take n xs) (let l = length-take-le n xs (omega arith) in omega arith) in
      let none : drop n (take n xs) ≡ [] = drop_all n (take n xs) (let l = length-take-le n xs (omega arith) in omega arith) in
      set_split xs n x lt ∙ sym (ap (λ p. (p ++ (x ∷ drop n (take n xs))) ++ drop (suc n) xs) whole ∙ ap (λ p. (take n xs ++ (x ∷ p)) ++ drop (suc n) xs) none
      ∙ append_assoc (take n xs) (x ∷ []) (drop (suc n) xs))

  -- x written at the end and the part from i on turned right by one
  pub put_turned : (xs ys : List A) (i n : ℕ) (x : A) → i ≤ n → n < length xs → (p : List A) → p ≡ take (n + 1 - i) (drop i (set xs n x)) →
      ys ≡ drop (length p - 1) p ++ take (length p - 1) p → length ys ≡ n + 1 - i → put_mid i (n + 1 - i) (set xs n x) ys ≡ put_at xs i n x
  put_turned xs ys i n x le lt p ep ey ly =
      let zs = put_mid i (n + 1 - i) (set xs n x) ys in
      let ls = length-set xs n x in
      let front : take (n + 1) zs ≡ insert (take n xs) i x = put_in xs ys i n x le lt p ep ey in
      let rest : drop (n + 1) zs ≡ drop (n + 1) xs =
      drop-put_mid i (n + 1 - i) (set xs n x) ys (n + 1) (omega arith) (omega arith) ly ∙ drop-set-lt (n + 1) xs n x (omega arith) in
      sym (take-append-drop (n + 1) zs) ∙ ap (λ f. f ++ drop (n + 1) zs) front ∙ ap (λ r. insert (take n xs) i x ++ r) rest
      ∙ ap (λ k. insert (take n xs) i x ++ drop k xs) (add-one n)

  -- a record to which the last one before it comes up is put at the end
  pub put_in_order_last : (order : A → A → Bool) (xs : List A) (a n : ℕ) (x d : A) → a ≤ n → n < length xs → (a < n → order (get_or xs (n - 1) d) x ≡ true) →
      put_in_order order xs a n x ≡ set xs n x
  put_in_order_last order xs a n x d le lt up = go (cases_lt a n)
    where
      none : high_above order x (between a n xs) ≡ 0 → put_in_order order xs a n x ≡ set xs n x
      none e = let k : n - high_above order x (between a n xs) ≡ n = omega arith in ap (λ k. put_at xs k n x) k ∙ sym (put_last xs n x lt)

      go : (a < n) ⊎ (n ≤ a) → put_in_order order xs a n x ≡ set xs n x
      go (inl h) =
          let y = get_or xs (n - 1) d in
          let read : y ≡ get_or xs (n - 1) y = get_or_default xs (n - 1) d y (omega arith) in
          none (above_stop order x xs a n y h (omega arith) read (up h))
      go (inr h) = let z : n - a ≡ 0 = omega arith in none (ap (λ k. high_above order x (take k (drop a xs))) z)

-- one slot more is blanked
blank_suc : {A : Type 0} (b : A) (i : ℕ) (xs : List A) → i < length xs → set (replicate i b ++ drop i xs) i b ≡ replicate (suc i) b ++ drop (suc i) xs
blank_suc b i [] h = absurd (not-suc-le-zero h)
blank_suc b zero (x ∷ xs) h = refl
blank_suc b (suc i) (x ∷ xs) h = ap (λ zs. b ∷ zs) (blank_suc b i xs (le_of_suc-le-suc h))

-- and with the slot counted as code does
pub blank_more : {A : Type 0} (b : A) (i : ℕ) (xs : List A) → i < length xs → set (replicate i b ++ drop i xs) i b ≡ replicate (i + 1) b ++ drop (i + 1) xs
blank_more b i xs h = rw add-one (blank_suc b i xs h)
