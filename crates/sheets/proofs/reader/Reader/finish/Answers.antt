use Rattle.std.proofs.Common.{◌<◌, length, sym, ap, ◌∙◌, arith}
use Rattle.std.proofs.lemmas.Bool.Decides.{nat_tests}
use Rattle.drawing.specs.Shown.{plan_of}
use Rattle.sheets.proofs.Steps.{ended_more}
use Rattle.sheets.proofs.reader.Reader.finish.Goals as goal

pub returns-then-not-is_at_end : goal.returns-then-not-is_at_end
returns-then-not-is_at_end c =
    let p = c.args.self.now in
    let h : 0 < length p.left = grind (arith, nat_tests, c.if-not-is_at_end.ensures) in
    rw c.fault-here.ensures (sym (ended_more p.line (plan_of c.args.drawing.now) c.args.count p.left (c.if-count-wires.false ∙ ap length c.wires.ensures) h))
