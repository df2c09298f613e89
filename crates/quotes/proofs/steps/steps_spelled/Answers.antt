-- The front is the first 26 bytes, or all of fewer.
use Rattle.std.proofs.Common.{◌≡◌, ℕ, min, ◌-◌, List, length, take, sym, ap, ◌∙◌, inl, inr, arith}
use Rattle.std.proofs.lemmas.List.{take_all, take-map}
use Rattle.std.proofs.lemmas.Bool.Decides.{leb_tells}
use Rattle.quotes.specs.Quotes.{steps_spelled}
use Rattle.quotes.proofs.steps.steps_spelled.Goals as goal

-- a front that is cut at the length is the front
front : (n m : ℕ) (bs : List ℕ) → m ≡ min (length bs) n → take m bs ≡ take n bs
front n m bs e =
    elim (leb_tells (length bs) n) [
      | inl p ↦ take_all m bs (omega (arith, p.1)) ∙ sym (take_all n bs p.1)
      | inr p ↦ (let k : m ≡ n = omega (arith, p.1) in ap (λ i. take i bs) k)
    ]

pub returns : goal.returns
returns c =
    c.loop-b.invariant
    ∙ ap steps_spelled (take_all c.loop-b.b-index (take c.min.result c.args.word.now) c.loop-b-test.false)
    ∙ ap steps_spelled (front 26 c.min.result c.args.word.now c.min.ensures)
    ∙ sym (take-map (λ c. c - 48) 26 c.args.word.now)
