-- What the price of an allocation of a sheet's drawing prints. Assumes nothing.
use Rattle.std.specs.Prelude.{ℕ, ◌-◌, cond, List, [], ◌∷◌, map, Some, None, Ok, Err, codes, decimal, Option, Result}
use Rattle.std.specs.Str.{bytes_eq}
use Rattle.drawing.specs.declared.refusals.Refusal.{Refusal}
use Rattle.drawing.specs.Plans.{Plan}
use Rattle.rules.specs.Steps.{three_steps}
use Rattle.measures.specs.declared.printable.Fields.{Fields}
use Rattle.measures.specs.declared.printable.Fields.TheVariants.{One, Two}
use Rattle.measures.specs.contracts.sums.TotalDelayMeasure.TheImpl as of_total
use Rattle.measures.specs.contracts.largest.WorstDelayMeasure.TheImpl as of_worst
use Rattle.measures.specs.contracts.lates.LateFirstDelayMeasure.TheImpl as of_late_first
use Rattle.measures.specs.declared.lates.Late.{Late}
use Rattle.pricing.specs.declared.prices.Priced.{Priced}
use Rattle.pricing.specs.Allocations.{Allocation}
use Rattle.pricing.specs.Measures.{meaning}
use Rattle.pricing.specs.Replies.{priced}
use Rattle.text.specs.Lines.{line_of}
use Rattle.sheets.specs.Faults.{call_fault}
use Rattle.sheets.specs.Texts.{refused_text}
use Rattle.quotes.specs.declared.names.MeasureName.{MeasureName}
use Rattle.quotes.specs.declared.names.MeasureName.TheVariants.{ByTotal, ByWorst, ByLate}

-- ---- arguments
-- the measure that a word names
abbrev pub measure_named : List ℕ → Option MeasureName
measure_named word =
    cond (bytes_eq word (codes "total")) (Some ByTotal)
    (cond (bytes_eq word (codes "worst")) (Some ByWorst)
    (cond (bytes_eq word (codes "late")) (Some ByLate) None))

-- the steps that digits spell, one for each digit
abbrev pub steps_spelled : List ℕ → List ℕ
steps_spelled ds = map (λ c. c - 48) ds

-- ---- answers
-- the fields of a value: one number, or two
abbrev pub value_fields : Fields → List (List ℕ)
value_fields (One n) = decimal n ∷ []
value_fields (Two n m) = decimal n ∷ decimal m ∷ []

-- the line of a price: used width, power and the fields of the delay
unfoldable pub price_text : {V : Type 0} → (V → Fields) → Priced V → List ℕ
price_text shown x = line_of (codes "price" ∷ decimal x.used ∷ decimal x.power ∷ value_fields (shown x.delay))

-- a price, or the line that names its refusal
abbrev pub reply_text : {V : Type 0} → (V → Fields) → Result (Priced V) Refusal → List ℕ
reply_text shown (Ok x) = price_text shown x
reply_text shown (Err why) = refused_text (call_fault why)

-- the answer for a drawing, by the open book and a measure that was named
abbrev pub quote_by : MeasureName → Plan → Allocation → List ℕ
quote_by ByTotal p x = reply_text (λ v. One v) (priced (meaning of_total.ghosts (record {})) three_steps p x)
quote_by ByWorst p x = reply_text (λ v. One v) (priced (meaning of_worst.ghosts (record {})) three_steps p x)
quote_by ByLate p x = reply_text (λ (v : Late). Two v.count v.sum) (priced (meaning of_late_first.ghosts (record {})) three_steps p x)
