-- All of a ready allocation's wires can be priced as they lie.
use Rattle.std.proofs.Common.{sym, subst}
use Rattle.std.proofs.lemmas.List.{take_rest}
use Rattle.pricing.specs.Allocations.{Allocation}
use Rattle.pricing.specs.Ready.{Ready}
use Rattle.pricing.proofs.Laying.{priceable_ready}
use Rattle.pricing.proofs.allocation.Allocation.lays.Goals as goal

pub invariant_of-result : goal.invariant_of-result
invariant_of-result c =
    let x : Allocation = record { widths = c.self.inside.widths.now; spaces = c.self.inside.spaces.now } in
    let ready : Ready c.args.wires.now x = subst (λ (z : Allocation). Ready c.args.wires.now z) (sym c.self.view_is) c.requires in
    record { ready = rw (take_rest c.self.inside.spaces.now 1) (priceable_ready c.args.wires.now x ready) }
