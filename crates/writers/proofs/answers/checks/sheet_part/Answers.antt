use Rattle.std.proofs.Common.{◌≡◌, ℕ, ◌-◌, min, List, length, take, sym, ap, ◌∙◌, inl, inr, arith}
use Rattle.std.proofs.lemmas.List.{take_all}
use Rattle.std.proofs.lemmas.Bool.Decides.{leb_tells}
use Rattle.writers.proofs.answers.checks.sheet_part.Goals as goal

-- a front that is cut at the length is the front
front : (n m : ℕ) (bs : List ℕ) → m ≡ min (length bs) n → take (m - 0) bs ≡ take n bs
front n m bs e =
    elim (leb_tells (length bs) n) [
      | inl p ↦ take_all (m - 0) bs (omega (arith, p.1)) ∙ sym (take_all n bs p.1)
      | inr p ↦ (let k : m - 0 ≡ n = omega (arith, p.1) in ap (λ i. take i bs) k)
    ]

pub returns : goal.returns
returns c = front 4096 c.min.result c.args.input.now c.min.ensures
