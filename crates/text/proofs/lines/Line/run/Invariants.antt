use Rattle.std.proofs.Common.{◌≡◌, ◌+◌, ◌-◌, ◌≤◌, ◌++◌, length}
use Rattle.text.specs.Runs.{run_text}
use Rattle.text.proofs.Runs.{digits_left}
use Rattle.text.proofs.lines.Line.run.Given as goal

abbrev pub invariant-loop-digit : goal.invariant-loop-digit
invariant-loop-digit l = (l.self-inside.bytes.items ++ digits_left l.digit l.rest ≡ l.initial.self-inside.bytes.items ++ run_text l.set)
    × (length l.self-inside.bytes.items ≤ length l.initial.self-inside.bytes.items + (l.digit - 49))
