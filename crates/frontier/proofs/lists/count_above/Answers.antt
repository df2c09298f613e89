-- What the chain counts, from the high end.
use Rattle.std.proofs.Common.{rules, tests, reverse, not, ◌∙◌, arith}
use Rattle.std.proofs.lemmas.Iterator.Adapters.{YieldsList-from_rev_slice}
use Rattle.std.proofs.lemmas.Iterator.Consumers.{YieldsList-at, count_from_yields_List}
use Rattle.std.proofs.lemmas.Iterator.Search.{YieldsList-from_take_while}
use Rattle.std.proofs.lemmas.List.Folds.{length-prefix_len}
use Rattle.frontier.proofs.Placing.{above_most, front_prefix}
use Rattle.frontier.proofs.lists.count_above.Goals as goal

pub returns-clause-counted : goal.returns-clause-counted
returns-clause-counted g c =
    let order = g.R.Record.upto c.args.measure.now in
    let x = c.args.x.now in
    let ys = reverse c.args.list.now in
    count_from_yields_List c.take_while.result c.count.result c.count.ensures.ran
    (YieldsList-from_take_while _ (λ y. not (order y x))
    (YieldsList-at c.take_while.ensures.source (YieldsList-from_rev_slice c.args.list.now cc)) c.take_while.ensures.closure c.take_while.ensures.done
    (λ y b q k. search (rules, tests)))
    ∙ length-prefix_len (λ y. not (order y x)) ys ∙ front_prefix order x ys

pub returns-clause-within : goal.returns-clause-within
returns-clause-within g c =
    let e = returns-clause-counted g c in
    let m = above_most (g.R.Record.upto c.args.measure.now) c.args.x.now c.args.list.now in
    omega arith
