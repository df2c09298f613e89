use Rattle.std.proofs.Common.{rules}
use Rattle.sheets.specs.Texts.{end_text}
use Rattle.writers.proofs.line_texts.end_line.Goals as goal

pub returns : goal.returns
unfolding end_text
returns c = search rules
