-- A step for each byte so far.
use Rattle.std.proofs.Common.{◌≡◌, take}
use Rattle.quotes.specs.Quotes.{steps_spelled}
use Rattle.quotes.proofs.steps.steps_spelled.Given as goal

abbrev pub invariant-loop-b : goal.invariant-loop-b
invariant-loop-b l = l.steps.items ≡ steps_spelled (take l.b-index l.front)
