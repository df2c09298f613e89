-- The values of a measure that is one of two kinds, read and written by the one measure or the other.
use Rattle.std.specs.Prelude.{Bool, cond, ◌&&◌}
use Rattle.measures.specs.declared.values.EitherValue.{EitherValue}
use Rattle.measures.specs.declared.values.EitherValue.TheVariants.{Empty, First, Second}

-- what a value is to the first measure, whose empty value is e
abbrev pub to_first : {V W : Type 0} → V → EitherValue V W → V
to_first e Empty = e
to_first e (First v) = v
to_first e (Second w) = e

-- what a value is to the second measure, whose empty value is e
abbrev pub to_second : {V W : Type 0} → W → EitherValue V W → W
to_second e Empty = e
to_second e (First v) = e
to_second e (Second w) = w

-- a value of the first kind as one of either: Empty, if neither it nor the empty value e is above the other
abbrev pub from_first : {V W : Type 0} → (V → V → Bool) → V → V → EitherValue V W
from_first order e v = cond (order v e && order e v) Empty (First v)

-- a value of the second kind as one of either
abbrev pub from_second : {V W : Type 0} → (W → W → Bool) → W → W → EitherValue V W
from_second order e w = cond (order w e && order e w) Empty (Second w)
