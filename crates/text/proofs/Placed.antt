-- What a buffer holds once bytes are put into it, one part after another. Assumes nothing.
use Rattle.std.proofs.Common.{◌≡◌, ℕ, ◌+◌, ◌≤◌, List, [], ◌++◌, length, take, sym, refl, ap, ◌∙◌, arith}
use lib.Seq.{paste}
use Rattle.std.proofs.lemmas.List.{length-append, take_all}
use Rattle.std.proofs.lemmas.List.Edits.{paste_all, paste-paste, take-paste, paste_none}
use Rattle.text.specs.Lines.{placed}

-- the library's name for it
pub placed_paste : (d : List ℕ) (at : ℕ) (s : List ℕ) → placed d at s ≡ paste d at s (length s)
placed_paste d at s = sym (paste_all d at s (length s) refl)

-- one part and then the next
pub placed_placed : (d : List ℕ) (at : ℕ) (s t : List ℕ) (n : ℕ) → n ≡ at + length s → n + length t ≤ length d → placed (placed d at s) n t ≡ placed d at (s ++ t)
placed_placed d at s t n e h =
    let le : at ≤ length d = omega arith in
    let p : paste (paste d at s (length s)) (at + length s) t (length t) ≡ paste d at (s ++ t) (length (s ++ t)) =
    rw length-append (paste-paste d at s t (length s) (length t) refl refl le) in
    rw e (placed_paste (placed d at s) (at + length s) t
    ∙ (ap (λ x. paste x (at + length s) t (length t)) (placed_paste d at s) ∙ (p ∙ sym (placed_paste d at (s ++ t)))))

-- the buffer up to the end of the part
pub take_placed : (d : List ℕ) (at : ℕ) (s : List ℕ) (n : ℕ) → n ≡ at + length s → n ≤ length d → take n (placed d at s) ≡ take at d ++ s
take_placed d at s n e h =
    rw e (ap (take (at + length s)) (placed_paste d at s)
    ∙ (take-paste d at s (length s) (omega arith) (omega arith) ∙ ap (λ x. take at d ++ x) (take_all (length s) s (omega arith))))

-- nothing put leaves the buffer as it was
pub placed_none : (d : List ℕ) (at : ℕ) → d ≡ placed d at []
placed_none d at = paste_none d at [] ∙ sym (placed_paste d at [])
