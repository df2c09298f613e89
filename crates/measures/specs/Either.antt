-- What a measure that is one of two kinds means.
use Rattle.std.specs.Prelude.{◌≡◌, Bool, ℕ}
use Rattle.either.specs.declared.Either.{Either}
use Rattle.either.specs.declared.Either.TheVariants.{Left, Right}
use Rattle.measures.specs.declared.measure.DelayMeasure.{Ghosts}
use Rattle.measures.specs.declared.printable.Fields.{Fields}
use Rattle.measures.specs.declared.values.EitherValue.{EitherValue}
use Rattle.measures.specs.Values.{to_first, to_second, from_first, from_second}

-- the value of one wire, by the measure at hand
abbrev pub either_made : {P Q V W : Type 0} → Ghosts P V → Ghosts Q W → Either P Q → ℕ → ℕ → EitherValue V W
either_made f s (Left p) d t = from_first (f.below p) f.EMPTY (f.made p d t)
either_made f s (Right q) d t = from_second (s.below q) s.EMPTY (s.made q d t)

-- two values in one, by the measure at hand
abbrev pub either_joined : {P Q V W : Type 0} → Ghosts P V → Ghosts Q W → Either P Q
    → EitherValue V W → EitherValue V W → EitherValue V W
either_joined f s (Left p) x y = from_first (f.below p) f.EMPTY (f.joined p (to_first f.EMPTY x) (to_first f.EMPTY y))
either_joined f s (Right q) x y = from_second (s.below q) s.EMPTY (s.joined q (to_second s.EMPTY x) (to_second s.EMPTY y))

-- 'not above', by the measure at hand
abbrev pub either_below : {P Q V W : Type 0} → Ghosts P V → Ghosts Q W → Either P Q
    → EitherValue V W → EitherValue V W → Bool
either_below f s (Left p) x y = f.below p (to_first f.EMPTY x) (to_first f.EMPTY y)
either_below f s (Right q) x y = s.below q (to_second s.EMPTY x) (to_second s.EMPTY y)

-- in reach by the measure at hand, and written as a value of its kind is
abbrev pub either_reach : {P Q V W : Type 0} → Ghosts P V → Ghosts Q W → Either P Q → ℕ → EitherValue V W → Type 0
either_reach f s (Left p) k x =
    f.reach p k (to_first f.EMPTY x) × (from_first (f.below p) f.EMPTY (to_first f.EMPTY x) ≡ x)
either_reach f s (Right q) k x =
    s.reach q k (to_second s.EMPTY x) × (from_second (s.below q) s.EMPTY (to_second s.EMPTY x) ≡ x)

-- the numbers of a value, by the measure at hand; e and o are the empty values of the two
abbrev pub either_shown : {P Q V W : Type 0} → V → (P → V → Fields) → W → (Q → W → Fields) → Either P Q
    → EitherValue V W → Fields
either_shown e f o s (Left p) x = f p (to_first e x)
either_shown e f o s (Right q) x = s q (to_second o x)
