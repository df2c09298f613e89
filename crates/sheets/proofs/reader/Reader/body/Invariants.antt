use Rattle.std.proofs.Common.{◌≡◌, ◌+◌, ◌-◌, length}
use Rattle.drawing.specs.Shown.{plan_of}
use Rattle.text.specs.Cuts.{cut_first, cut_rest}
use Rattle.sheets.specs.Reads.{read_body}
use Rattle.sheets.proofs.reader.Reader.body.Given as goal

abbrev pub invariant-lines : goal.invariant-lines
invariant-lines l =
    (read_body l.initial.self.line (plan_of l.initial.drawing) (cut_first 10 l.initial.self.left) (cut_rest 10 l.initial.self.left)
    ≡ read_body l.self.line (plan_of l.drawing) (cut_first 10 l.self.left) (cut_rest 10 l.self.left))
    × (l.self.line ≡ length (plan_of l.drawing).wires + 2)

abbrev pub decreases-lines : goal.decreases-lines
decreases-lines l = 25 - length (plan_of l.drawing).wires
