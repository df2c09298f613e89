-- The wires are those of the allocation, and each is asked for.
use Rattle.std.proofs.Common.{rules, tests}
use Rattle.std.proofs.lemmas.Iterator.Consumers.{YieldsList-from_first}
use Rattle.std.proofs.lemmas.Iterator.Search.{all_from_yields_List}
use Rattle.pricing.specs.Allocations.{admits_laid, lay, laid}
use Rattle.pricing.proofs.allocations.all_admitted.Goals as goal

pub returns : goal.returns
returns g c =
    all_from_yields_List (admits_laid (g.B.RuleBook.admits c.args.book.now)) c.all.new.self _ c.all.result c.all.ensures.ran
    (YieldsList-from_first (λ y. y) (λ s. lay s.wires.now s.widths.now s.left s.spaces.now) {s = c.lays.result} (laid c.args.wires.now c.args.allocation.now) c.lays.ensures)
    (λ y b q k. search (rules, tests))
