-- The reader's steps, field by field, and the fields of the line that it stands at.
use Rattle.std.proofs.Common.{◌≡◌, ℕ, zero, suc, ◌+◌, ◌<◌, ◌≤◌, List, [], ◌∷◌, length, get_or, drop, sym, refl, ap, ◌∙◌, arith}
use Rattle.std.proofs.lemmas.List.{drop-drop, drop_all}
use Rattle.text.specs.Cuts.{cut_first, cut_rest, cut_at, closed_count, field_of, after}
use Rattle.text.proofs.Fronts.{field_more, field_last}
use Rattle.sheets.specs.Reads.{wire_from, number_at}
use Rattle.sheets.specs.Places.{after_fields}
use Rattle.sheets.specs.Walks.{wire_front, number_front}

-- a line that counts some fields has them, and its line end
pub counted : (ms : List (List ℕ)) (n k : ℕ) → closed_count ms n ≡ k → 0 < k → (n ≡ k) × (0 < length ms)
counted [] n k e h = absurd (omega arith)
counted (m ∷ ms) n k e h = (e, omega arith)

-- what stands in a line of n + 1 fields, by the reader's steps
pub record Walk (n : ℕ) (bs : List ℕ) : Type 0 where
  pub fields : (k : ℕ) → k ≤ n → get_or (cut_at 44 (cut_first 10 bs)) k [] ≡ field_of (after_fields k bs)
  pub lines : cut_rest 10 bs ≡ cut_at 10 (after_fields (suc n) bs)

pub walk : (n : ℕ) (bs : List ℕ) → length (cut_at 44 (cut_first 10 bs)) ≡ suc n → 0 < length (cut_rest 10 bs) → Walk n bs
walk zero bs l h =
    let e = field_last bs l in
    record { fields = fields e; lines = e.1 h }
  where
    fields : (cut_at 44 (cut_first 10 bs) ≡ field_of bs ∷ []) × (0 < length (cut_rest 10 bs) → cut_rest 10 bs ≡ cut_at 10 (after bs)) → (k : ℕ) → k ≤ zero → get_or (cut_at 44 (cut_first 10 bs)) k [] ≡ field_of (after_fields k bs)
    fields e zero le = refl
    fields e (suc k) le = absurd (omega arith)
walk (suc n) bs l h =
    let e = field_more bs (omega arith) in
    let s = ap length e.0 in
    let w = walk n (after bs) (omega arith) (omega (arith, ap length e.1)) in
    record { fields = fields e w; lines = e.1 ∙ w.lines }
  where
    fields : (cut_at 44 (cut_first 10 bs) ≡ field_of bs ∷ cut_at 44 (cut_first 10 (after bs))) × (cut_rest 10 bs ≡ cut_rest 10 (after bs)) → Walk n (after bs) → (k : ℕ) → k ≤ suc n → get_or (cut_at 44 (cut_first 10 bs)) k [] ≡ field_of (after_fields k bs)
    fields e w zero le = refl
    fields e w (suc k) le = ap (λ (fs : List (List ℕ)). get_or fs (suc k) []) e.0 ∙ w.fields k (omega arith)

-- the eight numbers of a wire line, past its word
pub wire_walk : (line : ℕ) (bs : List ℕ) → Walk 8 bs → wire_front line (after bs) ≡ wire_from line (cut_at 44 (cut_first 10 bs))
wire_walk line bs w =
    rw (w.fields 1 (omega arith), w.fields 2 (omega arith), w.fields 3 (omega arith), w.fields 4 (omega arith), w.fields 5 (omega arith), w.fields 6 (omega arith), w.fields 7 (omega arith), w.fields 8 (omega arith))

-- the number of an end line, past its word
pub end_walk : (line : ℕ) (bs : List ℕ) → Walk 1 bs → number_front line 2 (after bs) ≡ number_at line 2 (cut_at 44 (cut_first 10 bs))
end_walk line bs w = rw (w.fields 1 (omega arith))

-- a reader goes past n bytes from `at` on and the byte that ends them
pub moved_past : (bs : List ℕ) (at n : ℕ) → n ≡ length (field_of (drop at bs)) → drop (at + n + 1) bs ≡ after (drop at bs)
moved_past bs at n e =
    sym (ap (λ k. drop 1 (drop k (drop at bs))) (sym e) ∙ (ap (drop 1) (drop-drop n at bs) ∙ drop-drop 1 (at + n) bs))

-- where no byte is left that could end them, nothing is left past them
pub moved_out : (bs : List ℕ) (at n : ℕ) → n ≡ length (field_of (drop at bs)) → length bs ≤ at + n → drop (at + n) bs ≡ after (drop at bs)
moved_out bs at n e h = drop_all (at + n) bs h ∙ (sym (drop_all (at + n + 1) bs (omega arith)) ∙ moved_past bs at n e)
