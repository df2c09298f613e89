-- Where the field at the front of a line ends, and how many fields the line has. Assumes nothing.
use Rattle.std.proofs.Common.{◌≡◌, ℕ, ◌+◌, ◌<◌, ◌≤◌, Bool, not, ◌||◌, ◌==◌, List, [], ◌∷◌, length, position, filter, take, Some, None, Option, refl, ap, ◌∙◌, ⊎_elim, one-add, arith}
use Rattle.std.specs.List.{position_or_len}
use Rattle.std.specs.Option.{unwrap_or}
use Rattle.std.proofs.lemmas.List.Sums.{prefix_len-le-length, position_or_len_is}
use Rattle.memchr.specs.Find.{IsFirstByte, is_byte}
use Rattle.std.proofs.lemmas.Bool.{false_from_ne_true, cases_eq, eq-eqb, ne_eqb}
use Rattle.std.proofs.lemmas.Bool.Decides.{nat_tests}
use Rattle.text.specs.Cuts.{cut_first, cut_rest, cut_at, field_of, closed_count, line_count}

-- the part before the first separator is all that stands before its place
pub first_taken : (s : ℕ) (bs : List ℕ) → cut_first s bs ≡ take (position_or_len (λ b. b == s) bs) bs
first_taken s [] = refl
first_taken s (c ∷ cs) =
    ⊎_elim
    (λ (e : c ≡ s). rw (eq-eqb c s e))
    (λ (n : c ≡ s → ⊥). rw (ne_eqb c s n, one-add) (ap (λ x. c ∷ x) (first_taken s cs)))
    (cases_eq c s)

-- with no separator there is no other part
pub rest_none : (s : ℕ) (bs : List ℕ) → length bs ≤ position_or_len (λ b. b == s) bs → cut_rest s bs ≡ []
rest_none s [] h = refl
rest_none s (c ∷ cs) h = let ih = rest_none s cs in grind (arith, nat_tests)

-- with a separator there is another part
pub rest_some : (s : ℕ) (bs : List ℕ) → position_or_len (λ b. b == s) bs < length bs → 0 < length (cut_rest s bs)
rest_some s [] h = absurd (omega arith)
rest_some s (c ∷ cs) h = let ih = rest_some s cs in grind (arith, nat_tests)

-- there is one part more than separators
pub parts_counted : (s : ℕ) (bs : List ℕ) → length (cut_at s bs) ≡ length (filter (λ b. b == s) bs) + 1
parts_counted s [] = refl
parts_counted s (c ∷ cs) =
    let ih = parts_counted s cs in
    ⊎_elim
    (λ (e : c ≡ s). rw (eq-eqb c s e) (omega arith))
    (λ (n : c ≡ s → ⊥). rw (ne_eqb c s n) (omega arith))
    (cases_eq c s)

-- the field at the front ends at the first comma or byte 10
pub field_ends : (bs : List ℕ) → length (field_of bs) ≡ position_or_len (λ b. b == 44 || b == 10) bs
field_ends [] = refl
field_ends (c ∷ cs) = let ih = field_ends cs in grind (arith, nat_tests)

-- the field at the front is as many of the bytes
pub field_taken : (bs : List ℕ) → take (length (field_of bs)) bs ≡ field_of bs
field_taken [] = refl
field_taken (c ∷ cs) = let ih = field_taken cs in grind (arith, nat_tests)

-- ---- by the first place that passes a test

-- the place, or else the length
pub place_or_len : (p : ℕ → Bool) (bs : List ℕ) (r : Option ℕ) → r ≡ position p bs → unwrap_or r (length bs) ≡ position_or_len p bs
place_or_len p bs r e = let le : position_or_len p bs ≤ length bs = prefix_len-le-length (λ b. not (p b)) bs in grind (arith, nat_tests)

-- a line with no byte 10 lacks its end
pub line_open : (bs : List ℕ) → position (λ b. b == 10) bs ≡ None → line_count bs ≡ 0
line_open bs e =
    let h : length bs ≤ position_or_len (λ b. b == 10) bs = grind (arith, nat_tests) in
    ap (λ ms. closed_count ms (length (cut_at 44 (cut_first 10 bs)))) (rest_none 10 bs h)

-- the first byte 10 that is found is at that place
pub found_first : (bs : List ℕ) (r : Option ℕ) → IsFirstByte (is_byte 10) bs r → r ≡ position (λ b. b == 10) bs
found_first bs None h =
    let e : position_or_len (λ b. b == 10) bs ≡ length bs =
    position_or_len_is (λ b. b == 10) bs (length bs) 0 (omega arith) (λ k l. false_from_ne_true _ (h k (omega arith) l)) (λ l. absurd (omega arith)) in
    grind (arith, nat_tests)
found_first bs (Some k) h =
    let e : position_or_len (λ b. b == 10) bs ≡ k =
    position_or_len_is (λ b. b == 10) bs k 0 (omega (arith, h.0.high)) (λ j l. false_from_ne_true _ (h.0.before j (omega arith) l)) (λ l. h.1) in
    grind (arith, nat_tests, h.0.high)

-- where another part follows, the count stands
count_stands : (ms : List (List ℕ)) (n : ℕ) → 0 < length ms → closed_count ms n ≡ n
count_stands [] n h = absurd (omega arith)
count_stands (m ∷ ms) n h = refl

-- a line that byte 10 ends has one field more than commas
pub line_closed : (bs : List ℕ) (i : ℕ) → position (λ b. b == 10) bs ≡ Some i → line_count bs ≡ length (filter (λ b. b == 44) (take i bs)) + 1
line_closed bs i e =
    let h : position_or_len (λ b. b == 10) bs < length bs = grind (arith, nat_tests) in
    let k : position_or_len (λ b. b == 10) bs ≡ i = grind (arith, nat_tests) in
    count_stands (cut_rest 10 bs) (length (cut_at 44 (cut_first 10 bs))) (rest_some 10 bs h)
    ∙ (ap (λ x. length (cut_at 44 x)) (first_taken 10 bs ∙ ap (λ n. take n bs) k) ∙ parts_counted 44 (take i bs))
