-- The number of each refusal. Assumes nothing.
use Rattle.std.specs.Prelude.{ℕ}
use Rattle.drawing.specs.declared.refusals.Refusal.{Refusal}
use Rattle.drawing.specs.declared.refusals.Refusal.TheVariants.{PlaceBeyondEnd, NumberAboveLimit, BundleFull, BadGrid, BadChannel, TooNarrow, NothingToUndo, NothingToRedo, NoWires, WrongCount, StepOutsideGrid, TripleBarred, AboveChannel, TooFewStates, TooFewPoints, TextTooShort, NothingFits, BadField, BadLine, WordNotDue, WrongEndCount}

-- the number by which a refusal is known
abbrev pub number_of : Refusal → ℕ
number_of PlaceBeyondEnd = 11
number_of NumberAboveLimit = 12
number_of BundleFull = 13
number_of BadGrid = 14
number_of BadChannel = 15
number_of TooNarrow = 16
number_of NothingToUndo = 17
number_of NothingToRedo = 18
number_of NoWires = 19
number_of WrongCount = 21
number_of StepOutsideGrid = 22
number_of TripleBarred = 23
number_of AboveChannel = 24
number_of TooFewStates = 31
number_of TooFewPoints = 32
number_of TextTooShort = 33
number_of NothingFits = 41
number_of BadField = 51
number_of BadLine = 52
number_of WordNotDue = 53
number_of WrongEndCount = 54
