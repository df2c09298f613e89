use Rattle.std.proofs.Common.{rules}
use Rattle.sheets.specs.Texts.{wire_text}
use Rattle.writers.proofs.line_texts.wire_line.Goals as goal

pub returns : goal.returns
unfolding wire_text
returns c = search rules
