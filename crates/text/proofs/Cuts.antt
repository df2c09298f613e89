-- What is cut is joined again, and what is joined is cut again; and which parts have no separator. Assumes nothing.
use Rattle.std.proofs.Common.{◌≡◌, ℕ, ◌^◌, ◌<◌, true, List, [], ◌∷◌, ◌++◌, decimal, refl, ap, arith}
use Rattle.std.specs.List.{AllByRecursion as All}
use Rattle.std.proofs.lemmas.Fmt.{digits_decimal}
use Rattle.std.proofs.ByRecursion.{All-append}
use Rattle.std.proofs.lemmas.List.{append-nil}
use Rattle.std.proofs.lemmas.Bool.{eq-eqb, ne_eqb}
use Rattle.std.proofs.lemmas.Bool.Decides.{nat_tests}
use Rattle.text.specs.Cuts.{cut_first, cut_rest, cut_at, led_by, join_by}
use Rattle.text.specs.Numbers.{all_digits}
use Rattle.text.proofs.Numbers.{spelled_numerals}

-- what was cut is joined again
pub join_cut : (s : ℕ) (bs : List ℕ) → join_by s (cut_at s bs) ≡ bs
join_cut s [] = refl
join_cut s (c ∷ cs) = let ih = join_cut s cs in grind (arith, nat_tests)

-- a part has no separator
abbrev pub Without : ℕ → List ℕ → Type 0
Without s f = All (λ b. b ≡ s → ⊥) f

-- a part and then the separator: the first part is that part
pub first_front : (s : ℕ) (f bs : List ℕ) → Without s f → cut_first s (f ++ (s ∷ bs)) ≡ f
first_front s [] bs w = rw (eq-eqb s s refl)
first_front s (c ∷ f) bs w = rw (ne_eqb c s w.0) (ap (λ x. c ∷ x) (first_front s f bs w.1))

-- a part and then the separator: the other parts are those of what follows
pub rest_front : (s : ℕ) (f bs : List ℕ) → Without s f → cut_rest s (f ++ (s ∷ bs)) ≡ cut_at s bs
rest_front s [] bs w = rw (eq-eqb s s refl)
rest_front s (c ∷ f) bs w = rw (ne_eqb c s w.0) (rest_front s f bs w.1)

-- with no separator the first part is all
pub first_last : (s : ℕ) (f : List ℕ) → Without s f → cut_first s f ≡ f
first_last s [] w = refl
first_last s (c ∷ f) w = rw (ne_eqb c s w.0) (ap (λ x. c ∷ x) (first_last s f w.1))

-- with no separator there are no other parts
pub rest_last : (s : ℕ) (f : List ℕ) → Without s f → cut_rest s f ≡ []
rest_last s [] w = refl
rest_last s (c ∷ f) w = rw (ne_eqb c s w.0) (rest_last s f w.1)

-- what was joined is cut again
pub cut_join : (s : ℕ) (f : List ℕ) (fs : List (List ℕ)) → Without s f → All (Without s) fs → cut_at s (join_by s (f ∷ fs)) ≡ f ∷ fs
cut_join s f [] w ws = rw (append-nil, first_last s f w, rest_last s f w)
cut_join s f (g ∷ fs) w ws =
    rw (first_front s f (g ++ led_by s fs) w, rest_front s f (g ++ led_by s fs) w) (ap (λ x. f ∷ x) (cut_join s g fs ws.0 ws.1))

-- ---- parts without a separator

-- two parts, one after the other
pub without_append : (s : ℕ) (xs ys : List ℕ) → Without s xs → Without s ys → Without s (xs ++ ys)
without_append s xs ys a b = All-append (λ b. b ≡ s → ⊥) xs ys a b

-- parts, each after a comma
pub without_after : (s : ℕ) (fs : List (List ℕ)) → (44 ≡ s → ⊥) → All (Without s) fs → Without s (led_by 44 fs)
without_after s [] n a = tt
without_after s (f ∷ fs) n a = (n, without_append s f (led_by 44 fs) a.0 (without_after s fs n a.1))

-- digits hold no byte below 48
pub without_digits : (s : ℕ) (ds : List ℕ) → s < 48 → all_digits ds ≡ true → Without s ds
without_digits s [] h e = tt
without_digits s (c ∷ cs) h e = ((λ z. grind (arith, nat_tests)), without_digits s cs h (grind (arith, nat_tests)))

-- a decimal holds no byte below 48
pub without_decimal : (s n : ℕ) → s < 48 → n < 2 ^ 64 → Without s (decimal n)
without_decimal s n h k = without_digits s (decimal n) h (digits_decimal spelled_numerals n k)
