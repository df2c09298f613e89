-- What the arguments of a price ask for. Assumes nothing.
use Rattle.std.specs.Prelude.{◌≡◌, ℕ, cond, ◌&&◌, List, [], ◌∷◌, take, Some, None, Option}
use Rattle.text.specs.Numbers.{all_digits}
use Rattle.quotes.specs.declared.names.MeasureName.{MeasureName}
use Rattle.quotes.specs.declared.names.MeasureName.TheVariants.{ByTotal}
use Rattle.quotes.specs.declared.requests.Request.{Request}
use Rattle.quotes.specs.Quotes.{measure_named, steps_spelled}

-- a measure, widths and spaces
pub record Asked : Type 0 where
  pub by : MeasureName
  pub wide : List ℕ
  pub apart : List ℕ

-- two runs of digits, each possibly empty, and a measure
abbrev pub asked_by : Option MeasureName → List ℕ → List ℕ → Option Asked
asked_by None ws ss = None
asked_by (Some m) ws ss =
    cond (all_digits ws && all_digits ss) (Some (record { by = m; wide = steps_spelled ws; apart = steps_spelled ss })) None

-- widths, spaces and possibly the name of a measure, which is else total
abbrev pub asked : List (List ℕ) → Option Asked
asked [] = None
asked (ws ∷ []) = None
asked (ws ∷ (ss ∷ [])) = asked_by (Some ByTotal) ws ss
asked (ws ∷ (ss ∷ (m ∷ []))) = asked_by (measure_named m) ws ss
asked (ws ∷ (ss ∷ (m ∷ (x ∷ xs)))) = None

-- a request as it is held: of widths and spaces the first 26
abbrev pub Asks : Option Request → Option Asked → Type 0
Asks None None = Unit {0}
Asks None (Some q) = ⊥
Asks (Some r) None = ⊥
Asks (Some r) (Some q) = (r.measure ≡ q.by) × (r.widths.items ≡ take 26 q.wide) × (r.spaces.items ≡ take 26 q.apart)
