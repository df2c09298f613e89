use Rattle.std.proofs.Common.{◌≡◌, ◌+◌, ◌≤◌, length, take}
use Rattle.std.specs.List.{flat_map}
use Rattle.text.specs.Lines.{placed}
use Rattle.sheets.specs.Texts.{wire_text}
use Rattle.writers.proofs.whole.put_wires.Given as goal

abbrev pub invariant-loop-wire : goal.invariant-loop-wire
invariant-loop-wire l = (l.end ≡ l.at + length (flat_map wire_text (take l.wire-index l.wires)))
    × (l.end ≤ length l.initial.text)
    × (l.text ≡ placed l.initial.text l.at (flat_map wire_text (take l.wire-index l.wires)))
