-- The place of the first test that passes, counted from 0.
use Rattle.std.proofs.Common.{ℕ, ltb, zip, List, [], ◌∷◌, ◌∙◌}
use Rattle.std.proofs.lemmas.Iterator.Adapters.{position_from-zero}
use Rattle.drawing.proofs.words.Wire.first_above_limit.Goals as goal

pub returns : goal.returns
returns c =
    let w = c.args.self.now in
    let numbers : List ℕ = w.a ∷ w.b ∷ w.g ∷ w.d ∷ w.e ∷ w.k ∷ w.h ∷ w.t ∷ [] in
    let limits : List ℕ = 1000 ∷ 1000 ∷ 1000 ∷ 1000 ∷ 1000 ∷ 1000 ∷ 1000 ∷ 60000000 ∷ [] in
    c.first_above.ensures ∙ position_from-zero (λ (p : ℕ × ℕ). ltb p.1 p.0) (zip numbers limits)
