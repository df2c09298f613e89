use Rattle.std.proofs.Common.{◌≡◌, ◌+◌, ◌-◌, ◌*◌, ◌%◌, ◌^◌, fold, ◌∙◌, rules, arith}
use Rattle.text.proofs.Numbers.{digits_folded}
use Rattle.text.proofs.fields.spelled.Goals as goal

pub returns : goal.returns
returns c =
    let ds = c.args.digits.now in
    let e : c.fold.result ≡ fold (λ m d. (m * 10 + (d - 48)) % 2 ^ 32) 0 ds = search rules in
    e ∙ digits_folded 0 0 ds (omega arith) (omega (arith, c.requires.few)) c.requires.digits
