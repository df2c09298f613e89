-- Sets of steps and their runs say the same. Assumes nothing.
use Rattle.std.proofs.Common.{◌≡◌, ℕ, zero, suc, ◌+◌, ◌-◌, ◌*◌, ◌/◌, ◌%◌, ◌^◌, ◌<◌, ◌≤◌, Bool, true, false, cond, eqb, List, [], ◌∷◌, ◌++◌, map, length, Some, sym, refl, ap, ◌∙◌, ⊎_elim, append_assoc, pow-suc, add-one, arith, pow_pos}
use native.Mathlib.Nat.{pow-le-pow_right}
use Rattle.std.specs.List.{AllByRecursion as All}
use Rattle.std.proofs.lemmas.Bool.{cases_eq, eq-eqb, ne_eqb}
use Rattle.std.proofs.lemmas.Bool.Decides.{nat_tests}
use Rattle.text.specs.Runs.{rising, set_of, set_in, run_in, digits_from, run_text}
use Rattle.text.proofs.Cuts.{Without}

-- ---- what holds of a whole table holds of an entry

-- what holds of two lists in a row holds of the first
all_left : {X : Type 0} (P : X → Type 0) (xs ys : List X) → All P (xs ++ ys) → All P xs
all_left P [] ys a = tt
all_left P (x ∷ xs) ys a = (a.0, all_left P xs ys a.1)

-- and of the second
all_right : {X : Type 0} (P : X → Type 0) (xs ys : List X) → All P (xs ++ ys) → All P ys
all_right P [] ys a = a
all_right P (x ∷ xs) ys a = all_right P xs ys a.1

-- what holds of each image holds of each by its image
all_mapped : {X Y : Type 0} (P : Y → Type 0) (f : X → Y) (xs : List X) → All P (map f xs) → All (λ x. P (f x)) xs
all_mapped P f [] a = tt
all_mapped P f (x ∷ xs) a = (a.0, all_mapped P f xs a.1)

-- two tables that are equal are equal at each entry
all_equal : {X Y : Type 0} (f g : X → Y) (xs : List X) → map f xs ≡ map g xs → All (λ x. f x ≡ g x) xs
all_equal f g [] e = tt
all_equal f g (x ∷ xs) e = ((cc), all_equal f g xs (cc))

-- every run of digits above `low`, for n steps
abbrev runs_from : ℕ → ℕ → List (List ℕ)
runs_from zero low = [] ∷ []
runs_from (suc n) low = runs_from n (low + 1) ++ map (λ r. (49 + low) ∷ r) (runs_from n (low + 1))

-- what holds of the whole table holds of every run
run_all : (n top low : ℕ) (ds : List ℕ) (P : List ℕ → Type 0) → low + n ≡ top → rising top low ds ≡ true → All P (runs_from n low) → P ds
run_all zero top low [] P e r a = a.0
run_all zero top low (c ∷ cs) P e r a = absurd (grind (arith, nat_tests))
run_all (suc n) top low [] P e r a = run_all n top (low + 1) [] P (omega arith) refl (all_left P (runs_from n (low + 1)) _ a)
run_all (suc n) top low (c ∷ cs) P e r a =
    ⊎_elim
    (λ (z : c ≡ 49 + low).
    let t : rising top (low + 1) cs ≡ true = (let k : c - 48 ≡ low + 1 = omega arith in rw (sym k) (grind (arith, nat_tests))) in
    rw z (run_all n top (low + 1) cs (λ r. P ((49 + low) ∷ r)) (omega arith) t (all_mapped P (λ r. (49 + low) ∷ r) (runs_from n (low + 1)) (all_right P (runs_from n (low + 1)) _ a))))
    (λ (z : c ≡ 49 + low → ⊥).
    let t : rising top (low + 1) (c ∷ cs) ≡ true = grind (arith, nat_tests) in
    run_all n top (low + 1) (c ∷ cs) P (omega arith) t (all_left P (runs_from n (low + 1)) _ a))
    (cases_eq c (49 + low))

-- n numbers from k on
abbrev counted : ℕ → ℕ → List ℕ
counted zero k = []
counted (suc n) k = k ∷ counted n (k + 1)

-- what holds of the whole table holds of every number
counted_all : (n k s : ℕ) (P : ℕ → Type 0) → k ≤ s → s < k + n → All P (counted n k) → P s
counted_all zero k s P lo hi a = absurd (omega arith)
counted_all (suc n) k s P lo hi a =
    ⊎_elim
    (λ (z : s ≡ k). rw z a.0)
    (λ (z : s ≡ k → ⊥). counted_all n (k + 1) s P (omega arith) (omega arith) a.1)
    (cases_eq s k)

-- ---- reading and writing

-- the 64 runs, each read and written again
runs_table : map (λ ds. run_text (set_of ds)) (runs_from 6 0) ≡ map (λ ds. ds) (runs_from 6 0)
unfolding run_text
runs_table = refl

-- the 63 sets that are not empty, each written and read again
sets_table : map (λ s. run_in (run_text s)) (counted 63 1) ≡ map Some (counted 63 1)
unfolding run_text
sets_table = refl

-- what is read as s is what s writes
pub run_read : (ds : List ℕ) (s : ℕ) → run_in ds ≡ Some s → run_text s ≡ ds
run_read ds s e =
    let r : rising 6 0 ds ≡ true = grind (arith, nat_tests) in
    let v : set_of ds ≡ s = grind (arith, nat_tests) in
    rw (sym v) (run_all 6 6 0 ds (λ d. run_text (set_of d) ≡ d) refl r (all_equal (λ d. run_text (set_of d)) (λ d. d) (runs_from 6 0) runs_table))

-- a set of steps that is not empty, written, is read again
pub run_write : (s : ℕ) → 0 < s → s ≤ 63 → run_in (run_text s) ≡ Some s
run_write s lo hi = counted_all 63 1 s (λ n. run_in (run_text n) ≡ Some n) lo (omega arith) (all_equal (λ n. run_in (run_text n)) Some (counted 63 1) sets_table)

-- ---- bounds

-- steps above `low` and up to `top` have only the bits between
pub rising_bound : (top low : ℕ) (ds : List ℕ) → low ≤ top → rising top low ds ≡ true → set_of ds + 2 ^ low ≤ 2 ^ top
rising_bound top low [] h e = (let m : 2 ^ low ≤ 2 ^ top = pow-le-pow_right (omega arith) h in omega arith)
rising_bound top low (c ∷ cs) h e =
    let lo : 48 + low < c = grind (arith, nat_tests) in
    let hi : c ≤ 48 + top = grind (arith, nat_tests) in
    let ih : set_of cs + 2 ^ (c - 48) ≤ 2 ^ top = rising_bound top (c - 48) cs (omega arith) (grind (arith, nat_tests)) in
    let m : 2 ^ low ≤ 2 ^ (c - 49) = pow-le-pow_right (omega arith) (omega arith) in
    let k : c - 48 ≡ (c - 49) + 1 = omega arith in
    let p : 2 ^ ((c - 49) + 1) ≡ 2 ^ (c - 49) * 2 = rw (add-one, pow-suc) in
    let q : 2 ^ (c - 48) ≡ 2 ^ ((c - 49) + 1) = ap (λ n. 2 ^ n) k in
    omega arith

-- a set of steps up to `top` has no more bits
pub set_bound : (top : ℕ) (ds : List ℕ) (s : ℕ) → set_in top ds ≡ Some s → s < 2 ^ top
set_bound top ds s e =
    let r : rising top 0 ds ≡ true = grind (arith, nat_tests) in
    let v : set_of ds ≡ s = grind (arith, nat_tests) in
    let b : set_of ds + 2 ^ 0 ≤ 2 ^ top = rising_bound top 0 ds (omega arith) r in
    omega arith

-- a set that is spelled by some digit is not empty
set_more_than_none : (ds : List ℕ) → 0 < length ds → 0 < set_of ds
set_more_than_none [] h = absurd (omega arith)
set_more_than_none (c ∷ cs) h = (let p : 0 < 2 ^ (c - 49) = pow_pos (c - 49) in omega arith)

-- a run is a set of 1 to 6 steps
pub run_bound : (ds : List ℕ) (s : ℕ) → run_in ds ≡ Some s → (0 < s) × (s ≤ 63)
run_bound ds s e =
    let h : 0 < length ds = grind (arith, nat_tests) in
    let v : set_of ds ≡ s = grind (arith, nat_tests) in
    let k : set_in 6 ds ≡ Some s = grind (arith, nat_tests) in
    let b : s < 2 ^ 6 = set_bound 6 ds s k in
    (omega (arith, set_more_than_none ds h), omega arith)

-- ---- the bytes of a run

-- whichever of two lists is picked
either_without : (b : ℕ) (t : Bool) (xs ys : List ℕ) → Without b xs → Without b ys → Without b (cond t xs ys)
either_without b true xs ys p q = p
either_without b false xs ys p q = q

-- digits are no bytes below 49
pub without_digits_from : (b n k s : ℕ) → b < 49 → Without b (digits_from n k s)
without_digits_from b zero k s h = tt
without_digits_from b (suc n) k s h =
    let w = without_digits_from b n (k + 1) (s / 2) h in
    either_without b (eqb (s % 2) 1) ((49 + k) ∷ digits_from n (k + 1) (s / 2)) (digits_from n (k + 1) (s / 2)) ((λ z. omega arith), w) w

-- at most one digit for each step
pub length_digits_from : (n k s : ℕ) → length (digits_from n k s) ≤ n
length_digits_from zero k s = omega arith
length_digits_from (suc n) k s = let ih = length_digits_from n (k + 1) (s / 2) in grind (arith, nat_tests)

-- a run has no comma and no byte 10
pub without_run : (b s : ℕ) → b < 49 → Without b (run_text s)
unfolding run_text
without_run b s h = without_digits_from b 6 0 s h

-- a run has at most 6 digits
pub length_run : (s : ℕ) → length (run_text s) ≤ 6
unfolding run_text
length_run s = length_digits_from 6 0 s

-- ---- a run written step by step

-- the digits of a run from the digit d on
unfoldable pub digits_left : ℕ → ℕ → List ℕ
digits_left d s = digits_from (55 - d) (d - 49) s

-- before the first step all is left
pub left_all : (s : ℕ) → digits_left 49 s ≡ run_text s
unfolding digits_left run_text
left_all s = refl

-- past the last step nothing is left
pub left_none : (s : ℕ) → digits_left 55 s ≡ []
unfolding digits_left
left_none s = refl

-- the step of the digit d is in the set, so d comes next
pub left_digit : (d s : ℕ) → 49 ≤ d → d < 55 → s % 2 ≡ 1 → digits_left d s ≡ d ∷ digits_left (d + 1) (s / 2)
unfolding digits_left
left_digit d s lo hi e =
    let m : 55 - d ≡ suc (55 - (d + 1)) = omega arith in
    let k : (d - 49) + 1 ≡ d + 1 - 49 = omega arith in
    let b : 49 + (d - 49) ≡ d = omega arith in
    ap (λ n. digits_from n (d - 49) s) m ∙ rw (eq-eqb (s % 2) 1 e, b, k)

-- the step of the digit d is not in the set
pub left_gap : (d s : ℕ) → 49 ≤ d → d < 55 → (s % 2 ≡ 1 → ⊥) → digits_left d s ≡ digits_left (d + 1) (s / 2)
unfolding digits_left
left_gap d s lo hi e =
    let m : 55 - d ≡ suc (55 - (d + 1)) = omega arith in
    let k : (d - 49) + 1 ≡ d + 1 - 49 = omega arith in
    ap (λ n. digits_from n (d - 49) s) m ∙ rw (ne_eqb (s % 2) 1 e, k)

-- a digit goes over from what is left to what is written
pub left_moved : (t u w : List ℕ) (d s : ℕ) → 49 ≤ d → d < 55 → s % 2 ≡ 1 → u ≡ t ++ (d ∷ []) → t ++ digits_left d s ≡ w → u ++ digits_left (d + 1) (s / 2) ≡ w
left_moved t u w d s lo hi e p q =
    ap (λ x. x ++ digits_left (d + 1) (s / 2)) p
    ∙ (append_assoc t (d ∷ []) (digits_left (d + 1) (s / 2)) ∙ (ap (λ x. t ++ x) (sym (left_digit d s lo hi e)) ∙ q))
