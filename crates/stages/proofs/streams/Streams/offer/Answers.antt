-- The head stands in the front, among the states of the stage.
use Rattle.std.proofs.Common.{◌+◌, ◌%◌, get_or, ap, ◌∙◌}
use Rattle.std.proofs.Math.Logic.{∥∥₁_elim}
use Rattle.std.proofs.Props.{props}
use Rattle.frontier.specs.States.{kept_of}
use Rattle.frontier.specs.Stages.{extended}
use Rattle.pricing.specs.Measures.{meaning}
use Rattle.stages.specs.Table.{stated}
use Rattle.stages.proofs.Heads.{read_front, laying, small_used, small_power}
use Rattle.stages.proofs.streams.Streams.offer.Goals as goal

pub extend-requires-clause-laying : goal.extend-requires-clause-laying
extend-requires-clause-laying g c =
    ∥∥₁_elim c.args.self.now.ready (Prim.hlevel props) (λ ready. laying ready c.args.k _ c.requires.0 c.requires.1)

pub extend-requires-clause-used : goal.extend-requires-clause-used
extend-requires-clause-used g c =
    ∥∥₁_elim c.args.self.now.ready (Prim.hlevel props) (λ ready. small_used ready c.args.k _ c.requires.0 c.requires.1)

pub extend-requires-clause-power : goal.extend-requires-clause-power
extend-requires-clause-power g c =
    ∥∥₁_elim c.args.self.now.ready (Prim.hlevel props) (λ ready. small_power ready c.args.k _ c.requires.0 c.requires.1)

pub returns : goal.returns
returns g c =
    let s = c.args.self.now in
    let m = meaning g.M.DelayMeasure s.merge.now.frame.now.measure.now in
    let i = get_or s.heads.now c.args.k 0 in
    let w = c.args.k % 6 + 1 in
    c.extend.ensures ∙ ap (λ z. stated (extended m s.merge.now.wire (kept_of z) w s.space) w i) (read_front m s.table.now s.merge.now.stop i _ c.requires.1 s.high)
