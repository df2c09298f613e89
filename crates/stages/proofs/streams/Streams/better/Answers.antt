-- The least of one head more.
use Rattle.std.proofs.Math.Logic.{∥∥₁_elim}
use Rattle.std.proofs.Props.{props}
use Rattle.stages.proofs.Heads.{least_first, take_old, take_new}
use Rattle.stages.proofs.streams.Streams.better.Goals as goal

pub returns-in-None : goal.returns-in-None
returns-in-None g c =
    let laws = g.met.M.DelayMeasure.lawful c.args.self.now.merge.now.frame.now.measure.now in
    let least = rw c.in-None.is at c.requires.least in
    ∥∥₁_elim c.args.self.now.ready (Prim.hlevel props) (λ ready. least_first laws ready c.args.k c.requires.live.0 least c.requires.live.1)

pub returns-then-is_upto : goal.returns-then-is_upto
returns-then-is_upto g c =
    let laws = g.met.M.DelayMeasure.lawful c.args.self.now.merge.now.frame.now.measure.now in
    let least = rw c.in-Some.is at c.requires.least in
    ∥∥₁_elim c.args.self.now.ready (Prim.hlevel props) (λ ready.
    take_old laws ready c.args.k c.in-Some.o c.offer-x.result c.offer-y.result least c.offer-x.ensures c.offer-y.ensures c.if-is_upto.ensures)

pub returns-else-is_upto : goal.returns-else-is_upto
returns-else-is_upto g c =
    let laws = g.met.M.DelayMeasure.lawful c.args.self.now.merge.now.frame.now.measure.now in
    let least = rw c.in-Some.is at c.requires.least in
    ∥∥₁_elim c.args.self.now.ready (Prim.hlevel props) (λ ready.
    take_new laws ready c.args.k c.in-Some.o c.offer-x.result c.offer-y.result c.requires.live.0 least c.requires.live.1 c.offer-x.ensures c.offer-y.ensures c.if-is_upto.ensures)
