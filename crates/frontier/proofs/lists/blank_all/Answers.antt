-- One record more is blank.
use Rattle.std.proofs.Common.{◌≡◌, [], ◌++◌, length, drop, set, replicate, ap, ◌∙◌, append-nil, arith, drop_of_length-le}
use Rattle.frontier.proofs.Placing.{blank_more}
use Rattle.frontier.proofs.lists.blank_all.Goals as goal

pub loop-x-preserved : goal.loop-x-preserved
loop-x-preserved g c =
    let nothing = c.blank-nothing.result in
    ap (λ l. set l c.loop-x.x-index nothing) c.loop-x.invariant ∙ blank_more nothing c.loop-x.x-index c.args.list.now c.loop-x-test.true

pub returns : goal.returns
returns g c =
    let i = c.loop-x.x-index in
    let nothing = c.blank-nothing.result in
    let all : i ≡ length c.args.list.now = omega arith in
    let rest : drop i c.args.list.now ≡ [] = drop_of_length-le c.args.list.now c.loop-x-test.false in
    c.loop-x.invariant ∙ ap (λ l. replicate i nothing ++ l) rest ∙ append-nil _ ∙ ap (λ n. replicate n nothing) all ∙ ap (replicate (length c.args.list.now)) c.blank-nothing.ensures
