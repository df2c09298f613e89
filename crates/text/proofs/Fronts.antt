-- Bytes field by field: what is left past the field at the front. Assumes nothing.
use Rattle.std.proofs.Common.{◌≡◌, ℕ, ◌<◌, ◌≤◌, List, [], ◌∷◌, length, refl, arith}
use Rattle.std.proofs.lemmas.Bool.Decides.{nat_tests}
use Rattle.text.specs.Cuts.{cut_first, cut_rest, cut_at, field_of, after, closed_count, line_count}

-- past a field that a comma ends stand the other fields of its line, and the same lines
pub field_more : (bs : List ℕ) → 1 < length (cut_at 44 (cut_first 10 bs))
    → (cut_at 44 (cut_first 10 bs) ≡ field_of bs ∷ cut_at 44 (cut_first 10 (after bs))) × (cut_rest 10 bs ≡ cut_rest 10 (after bs))
field_more [] h = absurd (omega arith)
field_more (c ∷ cs) h = let ih = field_more cs in grind (arith, nat_tests)

-- past the last field of a line that is ended stand the other lines
pub field_last : (bs : List ℕ) → length (cut_at 44 (cut_first 10 bs)) ≡ 1
    → (cut_at 44 (cut_first 10 bs) ≡ field_of bs ∷ []) × (0 < length (cut_rest 10 bs) → cut_rest 10 bs ≡ cut_at 10 (after bs))
field_last [] h = (refl, λ z. absurd (omega arith))
field_last (c ∷ cs) h = let ih = field_last cs in grind (arith, nat_tests)

-- a field of a line that is ended is gone past
pub after_shorter : (bs : List ℕ) → 0 < length (cut_rest 10 bs) → length (after bs) < length bs
after_shorter [] h = absurd (omega arith)
after_shorter (c ∷ cs) h = let ih = after_shorter cs in grind (arith, nat_tests)

-- a field is no longer than the bytes
pub field_within : (bs : List ℕ) → length (field_of bs) ≤ length bs
field_within [] = omega arith
field_within (c ∷ cs) = let ih = field_within cs in grind (arith, nat_tests)

-- in a line that is ended a byte follows each field
pub field_ended : (bs : List ℕ) → 0 < length (cut_rest 10 bs) → length (field_of bs) < length bs
field_ended [] h = absurd (omega arith)
field_ended (c ∷ cs) h = let ih = field_ended cs in grind (arith, nat_tests)

-- ---- how many fields

-- a count that is not 0 is the number of the fields of a line that is ended
pub count_closed : (bs : List ℕ) → 0 < line_count bs → (0 < length (cut_rest 10 bs)) × (length (cut_at 44 (cut_first 10 bs)) ≡ line_count bs)
count_closed bs h = by_rest (cut_rest 10 bs) (length (cut_at 44 (cut_first 10 bs))) h
  where
    by_rest : (ms : List (List ℕ)) (n : ℕ) → 0 < closed_count ms n → (0 < length ms) × (n ≡ closed_count ms n)
    by_rest [] n h = absurd (omega arith)
    by_rest (m ∷ ms) n h = (omega arith, refl)

-- a count of 0 says that no byte 10 is there
pub count_open : (bs : List ℕ) → line_count bs ≡ 0 → cut_rest 10 bs ≡ []
count_open bs e = by_rest (cut_rest 10 bs) (length (cut_at 44 (cut_first 10 bs))) (omega arith) e
  where
    by_rest : (ms : List (List ℕ)) (n : ℕ) → 0 < n → closed_count ms n ≡ 0 → ms ≡ []
    by_rest [] n h e = refl
    by_rest (m ∷ ms) n h e = absurd (omega arith)
