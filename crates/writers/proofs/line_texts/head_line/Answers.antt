use Rattle.std.proofs.Common.{append_assoc, rules}
use Rattle.std.proofs.lemmas.List.{append-nil}
use Rattle.sheets.specs.Texts.{head_text}
use Rattle.writers.proofs.line_texts.head_line.Goals as goal

pub returns : goal.returns
unfolding head_text
returns c = search (rules, append_assoc, append-nil)
