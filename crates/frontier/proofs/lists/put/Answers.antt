-- The record is written at the end, and where it belongs before others the part from there on is turned right by one.
use Rattle.std.proofs.Common.{◌≡◌, refl, ap, ◌∙◌, arith}
use Rattle.frontier.specs.Orders.{put_at}
use Rattle.frontier.proofs.Placing.{put_last, put_turned}
use Rattle.frontier.proofs.lists.put.Goals as goal

pub returns-then-place-end : goal.returns-then-place-end
returns-then-place-end g c =
    put_turned c.args.list.now _ c.args.place c.args.end c.args.x c.requires.within c.requires.room _ refl c.rotate_right.ensures.after (omega (arith, c.rotate_right.auto.self))

pub returns-else-place-end : goal.returns-else-place-end
returns-else-place-end g c =
    let e : c.args.end ≡ c.args.place = omega (arith, c.requires.within, c.if-place-end.false) in
    put_last c.args.list.now c.args.end c.args.x c.requires.room ∙ ap (λ k. put_at c.args.list.now k c.args.end c.args.x) e
