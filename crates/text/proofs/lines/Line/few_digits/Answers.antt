use Rattle.std.proofs.Common.{◌/◌, arith}
use Rattle.std.proofs.lemmas.Grind.{common_steps}
use Rattle.std.proofs.lemmas.Fmt.{decimal_digit, decimal_step}
use Rattle.text.proofs.lines.Line.few_digits.Goals as goal

pub returns-then-n-lt10-clause-text : goal.returns-then-n-lt10-clause-text
returns-then-n-lt10-clause-text c =
    rw (decimal_digit c.args.n c.if-n-lt10.true) (grind (arith, common_steps))

pub returns-clause-text : goal.returns-clause-text
returns-clause-text c =
    rw (decimal_step c.args.n (omega arith) (omega arith), decimal_digit (c.args.n / 10) (omega arith)) (grind (arith, common_steps))
