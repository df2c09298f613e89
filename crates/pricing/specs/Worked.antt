-- Prices worked out by the definitions. Assumes nothing.
use Rattle.std.specs.Prelude.{◌≡◌, ℕ, List, [], ◌∷◌, Ok, Err}
use Rattle.drawing.specs.declared.words.Wire.{Wire}
use Rattle.drawing.specs.declared.refusals.Refusal.TheVariants.{WrongCount, StepOutsideGrid, TripleBarred, AboveChannel}
use Rattle.drawing.specs.Plans.{Plan}
use Rattle.rules.specs.declared.books.OpenBook.{OpenBook}
use Rattle.rules.specs.contracts.books.OpenBookRuleBook.TheImpl as of_open
use Rattle.rules.specs.Pairs.{bars}
use Rattle.measures.specs.declared.sums.Total.{Total}
use Rattle.measures.specs.declared.largest.Worst.{Worst}
use Rattle.measures.specs.declared.lates.LateFirst.{LateFirst}
use Rattle.measures.specs.contracts.sums.TotalDelayMeasure.TheImpl as of_total
use Rattle.measures.specs.contracts.largest.WorstDelayMeasure.TheImpl as of_worst
use Rattle.measures.specs.contracts.lates.LateFirstDelayMeasure.TheImpl as of_late_first
use Rattle.measures.specs.Lates.{late}
use Rattle.pricing.specs.declared.prices.Priced.{Priced}
use Rattle.pricing.specs.Allocations.{Laid, Allocation, Book}
use Rattle.pricing.specs.WirePrices.{wire_delay, wire_power}
use Rattle.pricing.specs.Measures.{meaning}
use Rattle.pricing.specs.Replies.{priced}

-- the wire of the worked bundles
abbrev pub sample : Wire
sample = record { a = 1; b = 2; g = 30; d = 1; e = 2; k = 3; h = 5; t = 70000 }

-- that wire between spaces of 3
abbrev pub between_threes : ℕ → Laid
between_threes w = record { wire = sample; left = 3; width = w; right = 3 }

-- one such wire in a channel, with widths and spaces of 2 and 3
abbrev pub one_wire : ℕ → Plan
one_wire c = record { grid = record { widths = 6; spaces = 6 }; channel = c; wires = sample ∷ [] }

-- no wire in a channel of 9
abbrev pub no_wires : Plan
no_wires = record { grid = record { widths = 6; spaces = 6 }; channel = 9; wires = [] }

-- two such wires in a channel of 12, with the width 2 and spaces of 2 and 3
abbrev pub two_wires : Plan
two_wires = record { grid = record { widths = 2; spaces = 6 }; channel = 12; wires = sample ∷ sample ∷ [] }

-- widths, and spaces
abbrev pub allocation : List ℕ → List ℕ → Allocation
allocation ws ss = record { widths = ws; spaces = ss }

-- a used width, a power and a delay
abbrev pub cost : {V : Type 0} → ℕ → ℕ → V → Priced V
cost u p v = record { used = u; power = p; delay = v }

-- the open book less the pair of the width 3 and the space 3
abbrev pub threes_barred : OpenBook → Book
threes_barred b = bars ((of_open.ghosts).admits b) 3 3

-- what the wire and the bundles cost, where w is the smaller width
pub record WorkedPrices (w : ℕ) : Type 0 where
  pub narrow_power : wire_power (between_threes w) ≡ 560
  pub narrow_delay : wire_delay (between_threes w) ≡ 76800
  pub broad_power : wire_power (between_threes 3) ≡ 740
  pub broad_delay : wire_delay (between_threes 3) ≡ 65200
  pub narrow : (m : Total) (b : OpenBook)
      → priced (meaning of_total.ghosts m) ((of_open.ghosts).admits b) (one_wire 9) (allocation (w ∷ []) (3 ∷ 3 ∷ [])) ≡ Ok (cost 8 560 76800)
  pub broad : (m : Total) (b : OpenBook)
      → priced (meaning of_total.ghosts m) ((of_open.ghosts).admits b) (one_wire 9) (allocation (3 ∷ []) (3 ∷ 3 ∷ [])) ≡ Ok (cost 9 740 65200)
  pub one_space : (m : Total) (b : OpenBook)
      → priced (meaning of_total.ghosts m) ((of_open.ghosts).admits b) (one_wire 9) (allocation (w ∷ []) (3 ∷ [])) ≡ Err WrongCount
  pub width_four : (m : Total) (b : OpenBook)
      → priced (meaning of_total.ghosts m) ((of_open.ghosts).admits b) (one_wire 9) (allocation (4 ∷ []) (3 ∷ 3 ∷ [])) ≡ Err StepOutsideGrid
  pub barred : (m : Total) (b : OpenBook)
      → priced (meaning of_total.ghosts m) (threes_barred b) (one_wire 9) (allocation (3 ∷ []) (2 ∷ 3 ∷ [])) ≡ Err TripleBarred
  pub too_wide : (m : Total) (b : OpenBook)
      → priced (meaning of_total.ghosts m) ((of_open.ghosts).admits b) (one_wire 8) (allocation (3 ∷ []) (3 ∷ 3 ∷ [])) ≡ Err AboveChannel
  pub barred_and_too_wide : (m : Total) (b : OpenBook)
      → priced (meaning of_total.ghosts m) (threes_barred b) (one_wire 8) (allocation (3 ∷ []) (3 ∷ 3 ∷ [])) ≡ Err TripleBarred
  pub two_by_total : (m : Total) (b : OpenBook)
      → priced (meaning of_total.ghosts m) ((of_open.ghosts).admits b) two_wires (allocation (w ∷ w ∷ []) (3 ∷ 3 ∷ 2 ∷ [])) ≡ Ok (cost 12 1170 154800)
  pub two_by_worst : (m : Worst) (b : OpenBook)
      → priced (meaning of_worst.ghosts m) ((of_open.ghosts).admits b) two_wires (allocation (w ∷ w ∷ []) (3 ∷ 3 ∷ 2 ∷ [])) ≡ Ok (cost 12 1170 78000)
  pub two_closer : (m : Total) (b : OpenBook)
      → priced (meaning of_total.ghosts m) ((of_open.ghosts).admits b) two_wires (allocation (w ∷ w ∷ []) (3 ∷ 2 ∷ 3 ∷ [])) ≡ Ok (cost 12 1220 156000)
  pub none : (m : Total) (b : OpenBook)
      → priced (meaning of_total.ghosts m) ((of_open.ghosts).admits b) no_wires (allocation [] (3 ∷ [])) ≡ Ok (cost 3 0 0)
  pub late_one : (m : LateFirst) (b : OpenBook)
      → priced (meaning of_late_first.ghosts m) ((of_open.ghosts).admits b) (one_wire 8) (allocation (w ∷ []) (3 ∷ 3 ∷ [])) ≡ Ok (cost 8 560 (late 1 76800))
