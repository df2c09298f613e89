use Rattle.std.proofs.Common.{◌∙◌, arith}
use Rattle.writers.proofs.Shapes.{number_more}
use Rattle.writers.proofs.line_texts.numbers_line.Goals as goal

pub loop-n-preserved : goal.loop-n-preserved
loop-n-preserved c =
    let x = c.number.ensures in
    (x.text ∙ number_more c.loop-n.line c.args.word.now c.args.numbers.now c.loop-n.n-index c.loop-n-test.true c.loop-n.invariant.0, omega arith)
