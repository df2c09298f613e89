-- The chain gives the library's sum; each number is a byte.
use Rattle.std.proofs.Common.{rules, arith, ◌≡◌, ◌∙◌, sum}
use Rattle.pricing.proofs.Lists.{sum_total, total_bytes}
use Rattle.pricing.proofs.allocation.sum_of.Goals as goal

pub returns-clause-exact : goal.returns-clause-exact
returns-clause-exact c =
    let e : c.sum.result ≡ sum c.args.chosen.now = search rules in
    e ∙ sum_total c.args.chosen.now

pub returns-clause-small : goal.returns-clause-small
returns-clause-small c =
    let e : c.sum.result ≡ sum c.args.chosen.now = search rules in
    let t = sum_total c.args.chosen.now in
    let b = total_bytes c.args.chosen.now (λ i. let f = c.type_inv.chosen i in search rules) in
    omega arith
