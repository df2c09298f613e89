-- What holds of every measure of a kind. Assumes nothing.
use Rattle.drawing.specs.Plans.{Plan, Sound}
use Rattle.measures.specs.declared.measure.DelayMeasure.{Ghosts}
use Rattle.pricing.specs.Allocations.{Book}
use Rattle.pricing.specs.Measures.{Measure, meaning}

-- a statement of a measure, a book and a plan, for every measure of the kind, every book and every sound plan
abbrev pub Always : {M V : Type 0} → Ghosts M V → (Measure V → Book → Plan → Type 0) → Type 0
Always {M} kind claim = (m : M) (book : Book) (d : Plan) → Sound d → claim (meaning kind m) book d
