use Rattle.std.proofs.Common.{◌≡◌, ◌+◌, ◌*◌, ◌≤◌, ◌++◌, length, map, take, decimal}
use Rattle.text.specs.Cuts.{led_by}
use Rattle.writers.proofs.line_texts.numbers_line.Given as goal

abbrev pub invariant-loop-n : goal.invariant-loop-n
invariant-loop-n l = (l.line ≡ l.word ++ led_by 44 (map decimal (take l.n-index l.numbers)))
    × (length l.line ≤ length l.word + 11 * l.n-index)
