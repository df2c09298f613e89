-- The first width that may stand there is the least.
use Rattle.std.proofs.Common.{◌≡◌, true, false, rules}
use borrow.Author.Tests.{tests}
use Rattle.std.proofs.lemmas.Iterator.{first_from_Range}
use Rattle.solver.proofs.Widths.{stands, least_found}
use Rattle.solver.proofs.feasible.Setting.least_width.Goals as goal

pub returns : goal.returns
returns g c =
    let book = g.B.RuleBook.admits c.args.self.now.book.now in
    least_found book c.args.self.now.grid.widths c.args.left c.args.right c.find.result
    (first_from_Range _ _ _ c.find.result (λ w. stands book c.args.self.now.grid.widths c.args.left c.args.right w ≡ true) (λ w. stands book c.args.self.now.grid.widths c.args.left c.args.right w ≡ false)
    c.find.ensures.ran (λ w q k. search (rules, tests)) (λ w q k. search (rules, tests)))
