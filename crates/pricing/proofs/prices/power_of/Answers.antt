-- There are at most 24 wires, and each power is at most 480,000.
use Rattle.std.proofs.Common.{rules, tests, arith, ◌∙◌, map}
use Rattle.std.proofs.lemmas.Iterator.{YieldsList-from_map}
use Rattle.std.proofs.lemmas.Iterator.Adapters.{fits_from_length, at_most_from_yields_List}
use Rattle.std.proofs.lemmas.Iterator.Consumers.{YieldsList-at, YieldsList-from_first, sum_from_yields_List}
use Rattle.pricing.specs.Allocations.{lay, laid}
use Rattle.pricing.specs.WirePrices.{wire_power}
use Rattle.pricing.proofs.Lists.{sum_total}
use Rattle.pricing.proofs.Laying.{laid_few}
use Rattle.pricing.proofs.prices.power_of.Goals as goal

pub sum-requires-clause-fits : goal.sum-requires-clause-fits
sum-requires-clause-fits c =
    let few = laid_few c.args.wires.now c.args.allocation.now in
    fits_from_length _ _ 24 _
    (at_most_from_yields_List (YieldsList-at c.map.ensures.source (YieldsList-from_first (λ y. y) (λ s. lay s.wires.now s.widths.now s.left s.spaces.now) {s = c.lays.result} (laid c.args.wires.now c.args.allocation.now) c.lays.ensures)) (omega (arith, few, c.requires.few)))
    c.map.ensures.closure (omega arith) (λ x r q k. search (rules, tests))

pub returns : goal.returns
returns c =
    let road = YieldsList-from_first (λ y. y) (λ s. lay s.wires.now s.widths.now s.left s.spaces.now) {s = c.lays.result} (laid c.args.wires.now c.args.allocation.now) c.lays.ensures in
    sum_from_yields_List c.map.result c.sum.result c.sum.ensures.ran (YieldsList-from_map _ wire_power (YieldsList-at c.map.ensures.source road) c.map.ensures.closure (λ x r q k. search (rules, tests)))
    ∙ sum_total (map wire_power (laid c.args.wires.now c.args.allocation.now))
