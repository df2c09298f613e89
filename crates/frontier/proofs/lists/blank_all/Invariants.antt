-- The records gone through are blank.
use Rattle.std.proofs.Common.{◌≡◌, ◌++◌, drop, replicate}
use Rattle.frontier.proofs.lists.blank_all.Given as goal

abbrev pub invariant-loop-x : goal.invariant-loop-x
invariant-loop-x g l = l.list ≡ replicate l.x-index l.nothing ++ drop l.x-index l.initial.list
