-- The offer is too wide, beaten, without room, or kept.
use Rattle.std.proofs.Common.{true, false, arith}
use Rattle.stages.proofs.Turns.{ready, least_inside, drop_wide, drop_beaten, keep_it, full_it, beaten_by, leasts_kept}
use Rattle.stages.proofs.merge.Merge.take_head.Goals as goal

pub invariant_of-streams : goal.invariant_of-streams
invariant_of-streams g c =
    let laws = g.met.M.DelayMeasure.lawful c.args.self.now.frame.now.measure.now in
    record { high = c.requires.task.high; ready = ∣ ready laws c.requires.task c.requires.turn c.requires.space.0 ∣₁ }

pub is_behind-requires : goal.is_behind-requires
is_behind-requires g c =
    let laws = g.met.M.DelayMeasure.lawful c.args.self.now.frame.now.measure.now in
    least_inside laws c.requires.task c.requires.turn _ c.requires.leasts _ (omega (arith, c.if-x-self.false, c.requires.task.narrow))

pub note_delay-requires-clause-inside : goal.note_delay-requires-clause-inside
note_delay-requires-clause-inside g c =
    let laws = g.met.M.DelayMeasure.lawful c.args.self.now.frame.now.measure.now in
    least_inside laws c.requires.task c.requires.turn _ c.requires.leasts

pub returns-then-x-self-clause-turned : goal.returns-then-x-self-clause-turned
returns-then-x-self-clause-turned g c =
    let laws = g.met.M.DelayMeasure.lawful c.args.self.now.frame.now.measure.now in
    let q = c.requires in
    drop_wide laws q.task q.turn c.told-heads q.space.0 q.space.1 c.args.k q.first c.next-next.ensures c.offer-x.ensures c.if-x-self.true

pub returns-then-is_behind-clause-turned : goal.returns-then-is_behind-clause-turned
returns-then-is_behind-clause-turned g c =
    let laws = g.met.M.DelayMeasure.lawful c.args.self.now.frame.now.measure.now in
    let q = c.requires in
    let beaten = beaten_by laws q.task q.turn c.told-heads q.space.0 q.space.1 c.args.k q.first c.next-next.ensures c.offer-x.ensures c.if-x-self.false
    c.args.least.now q.leasts true c.if-is_behind.ensures in
    drop_beaten laws q.task q.turn c.told-heads q.space.0 q.space.1 c.args.k q.first c.next-next.ensures c.offer-x.ensures beaten

pub returns-then-end-table-clause-turned : goal.returns-then-end-table-clause-turned
returns-then-end-table-clause-turned g c =
    let laws = g.met.M.DelayMeasure.lawful c.args.self.now.frame.now.measure.now in
    let q = c.requires in
    let unbeaten = beaten_by laws q.task q.turn c.told-heads q.space.0 q.space.1 c.args.k q.first c.next-next.ensures c.offer-x.ensures c.if-x-self.false
    c.args.least.now q.leasts false c.if-is_behind.ensures in
    full_it laws q.task q.turn c.told-heads q.space.0 q.space.1 c.args.k q.first c.next-next.ensures c.offer-x.ensures c.if-x-self.false unbeaten
    (omega (arith, c.if-end-table.true, q.turn.high))

pub returns-clause-leasts : goal.returns-clause-leasts
returns-clause-leasts g c =
    let laws = g.met.M.DelayMeasure.lawful c.args.self.now.frame.now.measure.now in
    let q = c.requires in
    leasts_kept laws q.task q.turn c.told-heads q.space.0 q.space.1 c.args.k q.first c.next-next.ensures c.offer-x.ensures c.if-x-self.false
    c.args.least.now c.note_delay.new.least q.leasts c.note_delay.ensures c.if-end-table.false

pub returns-clause-turned : goal.returns-clause-turned
returns-clause-turned g c =
    let laws = g.met.M.DelayMeasure.lawful c.args.self.now.frame.now.measure.now in
    let q = c.requires in
    let unbeaten = beaten_by laws q.task q.turn c.told-heads q.space.0 q.space.1 c.args.k q.first c.next-next.ensures c.offer-x.ensures c.if-x-self.false
    c.args.least.now q.leasts false c.if-is_behind.ensures in
    keep_it laws q.task q.turn c.told-heads q.space.0 q.space.1 c.args.k q.first c.next-next.ensures c.offer-x.ensures c.if-x-self.false unbeaten c.if-end-table.false
