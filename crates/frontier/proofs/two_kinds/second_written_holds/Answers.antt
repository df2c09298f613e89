-- A value of the second kind is read back as it was written.
use Rattle.either.specs.declared.Either.TheVariants.{Right}
use Rattle.measures.specs.declared.values.EitherValue.TheVariants.{Empty}
use Rattle.measures.specs.Values.{to_second, from_second}
use Rattle.measures.specs.Choice.{second_forms}
use Rattle.pricing.specs.Measures.{meaning}
use Rattle.frontier.specs.Written.{either_meaning}
use Rattle.frontier.proofs.Reach.{limited_wires}
use Rattle.frontier.proofs.Writings.{forms_write, all_written}
use Rattle.frontier.proofs.two_kinds.second_written_holds.Goals as goal

pub returns : goal.returns
returns g c =
    let f = g.P.DelayMeasure in
    let s = g.Q.DelayMeasure in
    let laws = g.met.Q.DelayMeasure.lawful in
    λ q book d ok.
    all_written (meaning s q) (either_meaning f s (Right q)) (from_second (s.below q) s.EMPTY) (laws q)
    (forms_write (meaning s q) (s.reach q) Empty (to_second s.EMPTY) (from_second (s.below q) s.EMPTY) (laws q) (second_forms f s laws q))
    book d (limited_wires d ok)
