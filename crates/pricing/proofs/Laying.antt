-- What is known of the wires of an allocation as they lie. Assumes nothing.
use Rattle.std.proofs.Common.{◌≡◌, ℕ, ◌+◌, ◌≤◌, true, ◌&&◌, List, [], ◌∷◌, length, drop, get_or, refl, arith}
use Rattle.std.proofs.lemmas.Bool.{and_from, and_parts}
use Rattle.drawing.specs.declared.words.Wire.{Wire}
use Rattle.drawing.specs.Lists.{all}
use Rattle.drawing.specs.Plans.{within_limits}
use Rattle.rules.specs.Steps.{step, three_steps}
use Rattle.pricing.specs.Allocations.{Laid, Allocation, lay, lay_between, laid}
use Rattle.pricing.specs.Ready.{Ready}
use Rattle.pricing.specs.WirePrices.{priceable}

-- wires within their limits, with widths and spaces that are steps, can be priced as they lie
pub priceable_lay : (qs : List Wire) (ws : List ℕ) (l : ℕ) (ss : List ℕ)
    → all within_limits qs ≡ true → all step ws ≡ true → step l ≡ true → all step ss ≡ true → all priceable (lay qs ws l ss) ≡ true
priceable_lay [] ws l ss fit wide here apart = refl
priceable_lay (q ∷ qs) [] l ss fit wide here apart = refl
priceable_lay (q ∷ qs) (w ∷ ws) l [] fit wide here apart = refl
priceable_lay (q ∷ qs) (w ∷ ws) l (r ∷ ss) fit wide here apart =
    let f = and_parts (within_limits q) (all within_limits qs) fit in
    let w' = and_parts (step w) (all step ws) wide in
    let r' = and_parts (step r) (all step ss) apart in
    let y : Laid = record { wire = q; left = l; width = w; right = r } in
    and_from (priceable y) (all priceable (lay qs ws r ss))
    (and_from (within_limits q) (three_steps l w r) f.0 (and_from (step l) (step w && step r) here (and_from (step w) (step r) w'.0 r'.0)))
    (priceable_lay qs ws r ss f.1 w'.1 r'.0 r'.1)

-- so can the wires of a ready allocation
pub priceable_ready : (qs : List Wire) (x : Allocation) → Ready qs x → all priceable (lay qs x.widths (get_or x.spaces 0 0) (drop 1 x.spaces)) ≡ true
priceable_ready qs x r = go x.spaces r.apart r.space_steps
  where
    go : (ss : List ℕ) → length ss ≡ length qs + 1 → all step ss ≡ true → all priceable (lay qs x.widths (get_or ss 0 0) (drop 1 ss)) ≡ true
    go [] apart steps = absurd (omega arith)
    go (l ∷ ss) apart steps =
        let both = and_parts (step l) (all step ss) steps in
        priceable_lay qs x.widths l ss r.limited r.width_steps both.0 both.1

-- no more wires are laid than there are
laid_behind : (qs : List Wire) (ws : List ℕ) (l : ℕ) (ss : List ℕ) → length (lay qs ws l ss) ≤ length qs
laid_behind [] ws l ss = omega arith
laid_behind (q ∷ qs) [] l ss = omega arith
laid_behind (q ∷ qs) (w ∷ ws) l [] = omega arith
laid_behind (q ∷ qs) (w ∷ ws) l (r ∷ ss) = let t = laid_behind qs ws r ss in omega arith

pub laid_few : (qs : List Wire) (x : Allocation) → length (laid qs x) ≤ length qs
laid_few qs x = go x.spaces
  where
    go : (ss : List ℕ) → length (lay_between qs x.widths ss) ≤ length qs
    go [] = omega arith
    go (l ∷ ss) = laid_behind qs x.widths l ss
