use Rattle.std.proofs.Common.{rules}
use Rattle.sheets.specs.Texts.{refused_text}
use Rattle.writers.proofs.line_texts.refused_line.Goals as goal

pub returns : goal.returns
unfolding refused_text
returns c = search rules
