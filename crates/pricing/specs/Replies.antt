-- What pricing replies. Assumes nothing.
use Rattle.std.specs.Prelude.{Bool, not, List, [], ◌∷◌, Result}
use Rattle.drawing.specs.declared.refusals.Refusal.{Refusal}
use Rattle.drawing.specs.declared.refusals.Refusal.TheVariants.{WrongCount, StepOutsideGrid, TripleBarred, AboveChannel}
use Rattle.drawing.specs.Edits.{first_reason, unless_refused}
use Rattle.drawing.specs.Plans.{Plan}
use Rattle.pricing.specs.declared.prices.Priced.{Priced}
use Rattle.pricing.specs.Allocations.{Allocation, Book, counted, in_grid, admitted, within_channel}
use Rattle.pricing.specs.Measures.{Measure}
use Rattle.pricing.specs.Prices.{price_of}

-- what refuses an allocation, in order, each judged over the whole of it
abbrev pub price_reasons : Book → Plan → Allocation → List (Bool × Refusal)
price_reasons book p x =
    (not (counted p x), WrongCount)
    ∷ (not (in_grid p x), StepOutsideGrid)
    ∷ (not (admitted book p x), TripleBarred)
    ∷ (not (within_channel p x), AboveChannel)
    ∷ []

-- the price of an allocation, or the first refusal
abbrev pub priced : {V : Type 0} → Measure V → Book → Plan → Allocation → Result (Priced V) Refusal
priced m book p x = unless_refused (first_reason (price_reasons book p x)) (price_of m p.wires x)
