-- The worked bundles, by the definitions. Assumes nothing.
use Rattle.std.specs.Prelude.{◌≡◌, ℕ, ◌+◌, [], ◌∷◌, length, Ok, Err}
use Rattle.drawing.specs.declared.refusals.Refusal.TheVariants.{TooNarrow, NoWires, NothingFits, TooFewStates, TooFewPoints}
use Rattle.drawing.specs.declared.words.Edit.TheVariants.{SetChannel}
use Rattle.drawing.specs.Edits.{edit_reply}
use Rattle.rules.specs.declared.books.OpenBook.{OpenBook}
use Rattle.rules.specs.contracts.books.OpenBookRuleBook.TheImpl as of_open
use Rattle.rules.specs.Pairs.{bars}
use Rattle.measures.specs.declared.sums.Total.{Total}
use Rattle.measures.specs.declared.largest.Worst.{Worst}
use Rattle.measures.specs.declared.lates.Late.{Late}
use Rattle.measures.specs.declared.lates.LateFirst.{LateFirst}
use Rattle.measures.specs.contracts.sums.TotalDelayMeasure.TheImpl as of_total
use Rattle.measures.specs.contracts.largest.WorstDelayMeasure.TheImpl as of_worst
use Rattle.measures.specs.contracts.lates.LateFirstDelayMeasure.TheImpl as of_late_first
use Rattle.measures.specs.Lates.{late}
use Rattle.pricing.specs.Allocations.{Book}
use Rattle.pricing.specs.Measures.{Measure, meaning}
use Rattle.pricing.specs.Worked.{one_wire, no_wires, two_wires, threes_barred}
use Rattle.frontier.specs.declared.records.Point.{Point}
use Rattle.frontier.specs.Curves.{curve}
use Rattle.frontier.specs.States.{first, states, kept_states}
use Rattle.frontier.specs.Refusals.{solve_reply}

-- a power and a delay
abbrev pub at : {V : Type 0} → ℕ → V → Point V
at n v = record { power = n; delay = v }

-- the sum of the delays
abbrev pub by_total : Total → Measure ℕ
by_total m = meaning of_total.ghosts m

-- the largest of the delays
abbrev pub by_worst : Worst → Measure ℕ
by_worst m = meaning of_worst.ghosts m

-- the number of late wires, then the sum of the delays
abbrev pub by_late_first : LateFirst → Measure Late
by_late_first m = meaning of_late_first.ghosts m

-- the book that admits every triple of steps
abbrev pub open_book : OpenBook → Book
open_book b = (of_open.ghosts).admits b

-- the open book less the four pairs of the widths 2 and 3 and the spaces 2 and 3
abbrev pub all_barred : OpenBook → Book
all_barred b = bars (bars (bars (threes_barred b) 3 2) 2 3) 2 2

-- curves, kept states and refusals of bundles of the worked wire
pub record CasesHold : Type 0 where
  pub nine : (m : Total) (b : OpenBook) → curve (by_total m) (open_book b) (one_wire 9) ≡ (at 560 76800 ∷ at 740 65200 ∷ [])
  pub eight : (m : Total) (b : OpenBook) → curve (by_total m) (open_book b) (one_wire 8) ≡ (at 560 76800 ∷ at 790 66200 ∷ [])
  pub barred : (m : Total) (b : OpenBook) → curve (by_total m) (threes_barred b) (one_wire 9) ≡ (at 560 76800 ∷ at 840 67200 ∷ [])
  pub two_by_total : (m : Total) (b : OpenBook) → curve (by_total m) (open_book b) two_wires ≡ (at 1170 154800 ∷ [])
  pub two_by_worst : (m : Worst) (b : OpenBook) → curve (by_worst m) (open_book b) two_wires ≡ (at 1170 78000 ∷ [])
  pub late_one : (m : LateFirst) (b : OpenBook)
      → curve (by_late_first m) (open_book b) (one_wire 8) ≡ (at 560 (late 1 76800) ∷ at 790 (late 0 66200) ∷ [])
  pub one_states : (m : Total) (b : OpenBook) → kept_states (by_total m) (open_book b) (one_wire 9) ≡ 10
  pub two_states : (m : Total) (b : OpenBook) → kept_states (by_total m) (open_book b) two_wires ≡ 11
  pub two_partial : (m : Total) (b : OpenBook)
      → length (states (by_total m) (open_book b) (first 0 two_wires)) + length (states (by_total m) (open_book b) (first 1 two_wires))
      + length (states (by_total m) (open_book b) two_wires) ≡ 13
  pub enough : (m : Total) (b : OpenBook) → solve_reply (by_total m) (open_book b) (one_wire 9) 10 2 98 ≡ Ok tt
  pub nine_slots : (m : Total) (b : OpenBook) → solve_reply (by_total m) (open_book b) (one_wire 9) 9 2 98 ≡ Err TooFewStates
  pub all_short : (m : Total) (b : OpenBook) → solve_reply (by_total m) (open_book b) (one_wire 9) 9 1 0 ≡ Err TooFewStates
  pub one_point : (m : Total) (b : OpenBook) → solve_reply (by_total m) (open_book b) (one_wire 9) 10 1 98 ≡ Err TooFewPoints
  pub short_strip : (m : Total) (b : OpenBook) → solve_reply (by_total m) (open_book b) (one_wire 9) 10 2 97 ≡ Err TooFewPoints
  pub none_lawful : (m : Total) (b : OpenBook) → solve_reply (by_total m) (all_barred b) (one_wire 9) 0 0 0 ≡ Err NothingFits
  pub no_wire : (m : Total) (b : OpenBook) → solve_reply (by_total m) (open_book b) no_wires 0 0 0 ≡ Err NoWires
  pub no_wire_curve : (m : Total) (b : OpenBook) → curve (by_total m) (open_book b) no_wires ≡ (at 0 0 ∷ [])
  pub channel_six : edit_reply (one_wire 9) (SetChannel 6) ≡ Ok tt
  pub channel_five : edit_reply (one_wire 9) (SetChannel 5) ≡ Err TooNarrow
