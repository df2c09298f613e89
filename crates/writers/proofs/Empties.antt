-- What writing a sheet of no wires line by line replies and leaves. Assumes nothing.
use Rattle.std.proofs.Common.{◌≡◌, ℕ, ◌+◌, ◌≤◌, Bool, true, false, cond, List, [], ◌∷◌, ◌++◌, length, is_ok, Ok, Err, sym, refl, ap, ◌∙◌, arith}
use Rattle.std.proofs.lemmas.List.{length-append}
use Rattle.std.proofs.lemmas.Bool.{ltb-false}
use Rattle.drawing.specs.declared.refusals.Refusal.{Refusal}
use Rattle.drawing.specs.declared.words.Grid.{Grid}
use Rattle.drawing.specs.Edits.{Reply, first_reason, unless_refused, bare}
use Rattle.drawing.proofs.Accepted.{passed}
use Rattle.text.specs.Lines.{placed}
use Rattle.text.proofs.Placed.{placed_none}
use Rattle.writers.specs.Puts.{empty_reasons, empty_reply, empty_lines}
use Rattle.sheets.specs.Texts.{head_text, end_text, sheet_text}
use Rattle.writers.specs.Writes.{head_reasons, end_reasons}
use Rattle.writers.proofs.Parts.{behind}

-- ---- reasons in a row
-- where the first reasons refuse, more of them change nothing
pub still_refused : (rs ss : List (Bool × Refusal)) (why : Refusal) → first_reason rs ≡ Err why → first_reason (rs ++ ss) ≡ Err why
still_refused [] ss why e = let z : ◌≡◌ {A = ℕ} 0 1 = cc in absurd (omega arith)
still_refused (r ∷ rs) ss why e = either r.0 (still_refused rs ss why) e
  where
    either : (b : Bool) → (first_reason rs ≡ Err why → first_reason (rs ++ ss) ≡ Err why)
        → cond b (Err r.1) (first_reason rs) ≡ Err why → cond b (Err r.1) (first_reason (rs ++ ss)) ≡ Err why
    either true go x = x
    either false go x = go x

-- where the first reasons pass, the others decide
pub then_others : (rs ss : List (Bool × Refusal)) → first_reason rs ≡ Ok tt → first_reason (rs ++ ss) ≡ first_reason ss
then_others [] ss e = refl
then_others (r ∷ rs) ss e =
    let h = passed r.0 r.1 (first_reason rs) e in
    ap (λ (b : Bool). cond b (Err r.1) (first_reason (rs ++ ss))) h.0 ∙ then_others rs ss h.1

-- a line that is not refused fits
pub fits : (n at room : ℕ) → first_reason (end_reasons n at room) ≡ Ok tt → at + length (end_text n) ≤ room
fits n at room e = ltb-false room (at + length (end_text n)) (passed _ _ _ e).0

-- ---- the three ends of writing a sheet of no wires
-- the lines that are put, by what the head and then all say
lines_by : (grid : Grid) (channel room : ℕ) (head all : Reply) → first_reason (head_reasons grid channel 0 room) ≡ head → first_reason (empty_reasons grid channel room) ≡ all
    → empty_lines grid channel room ≡ cond (is_ok all) (sheet_text (bare grid channel)) (cond (is_ok head) (head_text grid channel) [])
lines_by grid channel room head all h a =
    ap (λ (r : Reply). cond (is_ok r) (sheet_text (bare grid channel)) (cond (is_ok (first_reason (head_reasons grid channel 0 room))) (head_text grid channel) [])) a
    ∙ ap (λ (r : Reply). cond (is_ok all) (sheet_text (bare grid channel)) (cond (is_ok r) (head_text grid channel) [])) h

-- the head is refused
pub head_refused : (grid : Grid) (channel room at : ℕ) (why : Refusal) (was became : List ℕ) → at ≡ 0
    → first_reason (head_reasons grid channel at room) ≡ Err why → became ≡ was
    → (empty_reply grid channel room ≡ Err why) × (became ≡ placed was 0 (empty_lines grid channel room))
head_refused grid channel room at why was became z e b =
    let h : first_reason (head_reasons grid channel 0 room) ≡ Err why = rw z at e in
    let a = still_refused (head_reasons grid channel 0 room) (end_reasons 0 (length (head_text grid channel)) room) why h in (
      ap (λ (r : Reply). unless_refused r (length (sheet_text (bare grid channel)))) a,
      b ∙ (placed_none was 0 ∙ ap (placed was 0) (sym (lines_by grid channel room (Err why) (Err why) h a))),
    )

-- the end is refused
pub end_refused : (grid : Grid) (channel room mid at len n : ℕ) (why : Refusal) (was headed became : List ℕ) → at ≡ 0 → n ≡ 0 → mid ≡ room
    → len ≡ at + length (head_text grid channel) → first_reason (head_reasons grid channel at room) ≡ Ok tt → headed ≡ placed was at (head_text grid channel)
    → first_reason (end_reasons n len mid) ≡ Err why → became ≡ headed
    → (empty_reply grid channel room ≡ Err why) × (became ≡ placed was 0 (empty_lines grid channel room))
end_refused grid channel room mid at len n why was headed became z nz m l e p f b =
    let ln : len ≡ length (head_text grid channel) = omega arith in
    let h : first_reason (head_reasons grid channel 0 room) ≡ Ok tt = rw z at e in
    let g : first_reason (end_reasons 0 (length (head_text grid channel)) room) ≡ Err why = rw (nz, ln, m) at f in
    let a = then_others (head_reasons grid channel 0 room) (end_reasons 0 (length (head_text grid channel)) room) h ∙ g in (
      ap (λ (r : Reply). unless_refused r (length (sheet_text (bare grid channel)))) a,
      b ∙ (p ∙ (ap (λ (k : ℕ). placed was k (head_text grid channel)) z ∙ ap (placed was 0) (sym (lines_by grid channel room (Ok tt) (Err why) h a)))),
    )

-- both lines are put
pub both_put : (grid : Grid) (channel room mid at len n last : ℕ) (was headed became : List ℕ) → at ≡ 0 → n ≡ 0 → mid ≡ room → length was ≡ room
    → len ≡ at + length (head_text grid channel) → first_reason (head_reasons grid channel at room) ≡ Ok tt → headed ≡ placed was at (head_text grid channel)
    → first_reason (end_reasons n len mid) ≡ Ok tt → last ≡ len + length (end_text n) → became ≡ placed headed len (end_text n)
    → (Ok last ≡ empty_reply grid channel room) × (became ≡ placed was 0 (empty_lines grid channel room))
both_put grid channel room mid at len n last was headed became z nz m lw l e p f k b =
    let ln : len ≡ length (head_text grid channel) = omega arith in
    let h : first_reason (head_reasons grid channel 0 room) ≡ Ok tt = rw z at e in
    let g : first_reason (end_reasons 0 (length (head_text grid channel)) room) ≡ Ok tt = rw (nz, ln, m) at f in
    let a = then_others (head_reasons grid channel 0 room) (end_reasons 0 (length (head_text grid channel)) room) h ∙ g in
    let w = fits 0 (length (head_text grid channel)) room g in
    let s = length-append (head_text grid channel) (end_text 0) in
    let t = ap (λ (i : ℕ). length (end_text i)) nz in
    let ls : last ≡ length (sheet_text (bare grid channel)) = omega arith in
    let q : headed ≡ placed was 0 (head_text grid channel) = p ∙ ap (λ (i : ℕ). placed was i (head_text grid channel)) z in
    let b0 : became ≡ placed headed len (end_text 0) = b ∙ ap (λ (i : ℕ). placed headed len (end_text i)) nz in (
      ap (λ (i : ℕ). Ok i) ls ∙ sym (ap (λ (r : Reply). unless_refused r (length (sheet_text (bare grid channel)))) a),
      behind was headed became 0 len (head_text grid channel) (end_text 0) q (omega arith) (omega arith) b0
          ∙ ap (placed was 0) (sym (lines_by grid channel room (Ok tt) (Ok tt) h a)),
    )
