-- A measure whose values are those of another, written in another form: prices, order, curves and kept states are those of the other,
-- written so. Assumes nothing.
use Rattle.std.specs.Prelude.{◌≡◌, ℕ, map}
use Rattle.drawing.specs.Plans.{Plan, Sound}
use Rattle.either.specs.declared.Either.{Either}
use Rattle.either.specs.declared.Either.TheVariants.{Left, Right}
use Rattle.measures.specs.declared.measure.DelayMeasure.{Ghosts}
use Rattle.measures.specs.declared.values.EitherValue.{EitherValue}
use Rattle.measures.specs.declared.values.EitherValue.TheVariants.{Empty}
use Rattle.measures.specs.Either.{either_made, either_joined, either_below}
use Rattle.measures.specs.Values.{from_first, from_second}
use Rattle.pricing.specs.Allocations.{Book}
use Rattle.pricing.specs.Measures.{Measure, meaning}
use Rattle.frontier.specs.declared.records.Point.{Point}
use Rattle.frontier.specs.Lists.{◌∈◌}
use Rattle.frontier.specs.Points.{at_or_below, prices}
use Rattle.frontier.specs.Curves.{curve, IsCurve}
use Rattle.frontier.specs.States.{Kept, kept, kept_states}

-- a point with its delay written in another form
abbrev pub written : {V W : Type 0} → (V → W) → Point V → Point W
written norm p = record { power = p.power; delay = norm p.delay }

-- a state with its delay written in another form
abbrev pub written_state : {V W : Type 0} → (V → W) → Kept V → Kept W
written_state norm s = record { last = s.last; used = s.used; power = s.power; delay = norm s.delay }

-- what n shows of a plan is what m shows of it, written by norm: the prices of the lawful allocations one by one, which of two prices is
-- at or below which, the curve, the kept states of each stage, and their number
pub record Written {V W : Type 0} (m : Measure V) (n : Measure W) (norm : V → W) (book : Book) (d : Plan) : Type 0 where
  pub each_price : prices n book d ≡ map (written norm) (prices m book d)
  pub order : (p q : Point V) → p ∈ prices m book d → q ∈ prices m book d
      → at_or_below n (written norm p) (written norm q) ≡ at_or_below m p q
  pub whole_curve : curve n book d ≡ map (written norm) (curve m book d)
  pub each_row : (j : ℕ) → kept n book d j ≡ map (written_state norm) (kept m book d j)
  pub count : kept_states n book d ≡ kept_states m book d

-- what a measure that is one of two kinds means
abbrev pub either_meaning : {P Q V W : Type 0} → Ghosts P V → Ghosts Q W → Either P Q → Measure (EitherValue V W)
either_meaning f s m = record { empty = Empty; made = either_made f s m; joined = either_joined f s m; below = either_below f s m }

-- the computed curve is the curve by what a measure of two kinds means
abbrev pub EitherCurve : {P Q V W : Type 0} → Ghosts P V → Ghosts Q W → Type 0
EitherCurve {P} {Q} f s =
    (m : Either P Q) (book : Book) (d : Plan) → Sound d
    → IsCurve (either_meaning f s m) book d (curve (either_meaning f s m) book d)

-- a measure of two kinds that is of the first shows what that one shows
abbrev pub FirstWritten : {P Q V W : Type 0} → Ghosts P V → Ghosts Q W → Type 0
FirstWritten {P} f s =
    (p : P) (book : Book) (d : Plan) → Sound d
    → Written (meaning f p) (either_meaning f s (Left p)) (from_first (f.below p) f.EMPTY) book d

-- a measure of two kinds that is of the second shows what that one shows
abbrev pub SecondWritten : {P Q V W : Type 0} → Ghosts P V → Ghosts Q W → Type 0
SecondWritten {P} {Q} f s =
    (q : Q) (book : Book) (d : Plan) → Sound d
    → Written (meaning s q) (either_meaning f s (Right q)) (from_second (s.below q) s.EMPTY) book d
