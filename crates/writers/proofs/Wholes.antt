-- A whole text in a buffer that is long enough. Assumes nothing.
use Rattle.std.proofs.Common.{◌≡◌, ℕ, ◌+◌, ◌≤◌, Bool, cond, List, length, take, replicate, Ok, Err, ap, ◌∙◌, arith}
use Rattle.std.proofs.lemmas.Bool.{le-ltb}
use Rattle.drawing.specs.declared.refusals.Refusal.TheVariants.{TextTooShort}
use Rattle.drawing.specs.Edits.{unless_refused}
use Rattle.text.specs.Lines.{placed}
use Rattle.text.proofs.Placed.{take_placed}
use Rattle.writers.specs.Writes.{whole_reply, whole_left}

-- the reply is the text's length
pub whole_fits : (s : List ℕ) (room : ℕ) → length s ≤ room → whole_reply s room ≡ Ok (length s)
whole_fits s room h =
    ap (λ (b : Bool). unless_refused (cond b (Err TextTooShort) (Ok tt)) (length s)) (le-ltb room (0 + length s) (omega arith))

-- the buffer begins with the text
pub whole_front : (s was : List ℕ) (n : ℕ) → length s ≤ length was → n ≡ length s → take n (whole_left s was) ≡ s
whole_front s was n h e =
    ap (λ (b : Bool). take n (cond b (replicate (length was) 0) (placed was 0 s))) (le-ltb (length was) (0 + length s) (omega arith))
    ∙ take_placed was 0 s n (omega arith) (omega arith)
