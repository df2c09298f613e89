use Rattle.std.proofs.Common.{◌≡◌, true, sym, ◌∙◌, arith}
use Rattle.text.specs.Numbers.{all_digits}
use Rattle.text.proofs.Steps.{number_none, number_some}
use Rattle.text.proofs.fields.number_in.Goals as goal

pub returns-then-not-all_digits : goal.returns-then-not-all_digits
returns-then-not-all_digits c =
    let ds = c.args.part.now in
    sym (number_none ds (sym c.all_digits.ensures ∙ c.if-not-all_digits.true))

pub returns : goal.returns
returns c =
    let ds = c.args.part.now in
    let d : all_digits ds ≡ true = sym c.all_digits.ensures ∙ c.if-not-all_digits.false in
    sym (number_some ds c.spelled.result (grind arith) c.if-part-gt8.false (λ e. grind arith) d (sym c.spelled.ensures))

pub spelled-requires-clause-digits : goal.spelled-requires-clause-digits
spelled-requires-clause-digits c = sym c.all_digits.ensures ∙ c.if-not-all_digits.false
