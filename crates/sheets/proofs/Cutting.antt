-- A written line, cut again: its fields, and what follows it. Assumes nothing.
use Rattle.std.proofs.Common.{◌≡◌, ℕ, List, [], ◌∷◌, ◌++◌, ap, ◌∙◌, append_assoc, arith}
use Rattle.std.specs.List.{AllByRecursion as All}
use Rattle.text.specs.Cuts.{cut_first, cut_rest, cut_at, led_by, join_by}
use Rattle.text.specs.Lines.{line_of}
use Rattle.text.proofs.Cuts.{Without, first_front, rest_front, cut_join, join_cut, without_append, without_after}

-- the fields hold no byte that parts them and none that ends their line
pub record Plain (fields : List (List ℕ)) : Type 0 where
  pub commas : All (Without 44) fields
  pub ends : All (Without 10) fields

-- text that begins with a line of these fields, and goes on with the bytes bs
pub record Lined (text : List ℕ) (fields : List (List ℕ)) (bs : List ℕ) : Type 0 where
  pub first : cut_at 44 (cut_first 10 text) ≡ fields
  pub rest : cut_rest 10 text ≡ cut_at 10 bs

-- a line of such fields is cut into them again
pub lined : (f : List ℕ) (fs : List (List ℕ)) (bs : List ℕ) → Plain (f ∷ fs) → Lined (line_of (f ∷ fs) ++ bs) (f ∷ fs) bs
lined f fs bs p =
    let x = join_by 44 (f ∷ fs) in
    let w : Without 10 x = without_append 10 f (led_by 44 fs) p.ends.0 (without_after 10 fs (omega arith) p.ends.1) in
    let e : line_of (f ∷ fs) ++ bs ≡ x ++ (10 ∷ bs) = append_assoc x (10 ∷ []) bs in
    record {
      first = ap (λ z. cut_at 44 (cut_first 10 z)) e ∙ (ap (cut_at 44) (first_front 10 x bs w) ∙ cut_join 44 f fs p.commas.0 p.commas.1);
      rest = ap (cut_rest 10) e ∙ rest_front 10 x bs w;
    }

-- fields that were cut from a line are written as that line
pub line_again : (fields : List (List ℕ)) (l : List ℕ) → fields ≡ cut_at 44 l → line_of fields ≡ l ++ 10 ∷ []
line_again fields l e = ap line_of e ∙ ap (λ z. z ++ 10 ∷ []) (join_cut 44 l)
