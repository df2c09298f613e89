-- What a delay measure means, as one value. Assumes nothing.
use Rattle.std.specs.Prelude.{ℕ, Bool}
use Rattle.measures.specs.declared.measure.DelayMeasure.{Ghosts}

-- the value of no wire, the value of one wire by its delay and its deadline, two values in one, and which are not above which
pub record Measure (V : Type 0) : Type 0 where
  pub empty : V
  pub made : ℕ → ℕ → V
  pub joined : V → V → V
  pub below : V → V → Bool

-- what the measure m of a kind means
abbrev pub meaning : {M V : Type 0} → Ghosts M V → M → Measure V
meaning kind m = record { empty = kind.EMPTY; made = kind.made m; joined = kind.joined m; below = kind.below m }
