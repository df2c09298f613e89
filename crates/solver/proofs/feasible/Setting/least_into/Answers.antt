-- One place more: the lesser of the least so far and the one behind it.
use Rattle.std.proofs.Common.{◌+◌, ℕ, Option, sym, subst, rules, tests}
use Rattle.solver.specs.Least.{Into}
use Rattle.solver.proofs.Widths.{into_more, lesser_first}
use Rattle.solver.proofs.feasible.Setting.least_into.Goals as goal

pub loop-i-preserved : goal.loop-i-preserved
loop-i-preserved g c =
    let book = g.B.RuleBook.admits c.args.self.now.book.now in
    let least = c.loop-i.least in
    let used = c.used_behind-used.result in
    let is = lesser_first _ (λ x y k. search (rules, tests)) (λ x y k. search (rules, tests)) least used c.first_of_two-least.result c.first_of_two-least.ensures in
    subst (λ (z : Option ℕ). Into book c.args.self.now.grid.widths c.args.self.now.channel c.args.row.now c.args.right (c.loop-i.i + 1) z) (sym is)
    (into_more book c.args.self.now.grid.widths c.args.self.now.channel c.args.row.now c.args.right c.loop-i.i least used c.loop-i.invariant c.used_behind-used.ensures)
