-- A value of the first kind is read back as it was written.
use Rattle.either.specs.declared.Either.TheVariants.{Left}
use Rattle.measures.specs.declared.values.EitherValue.TheVariants.{Empty}
use Rattle.measures.specs.Values.{to_first, from_first}
use Rattle.measures.specs.Choice.{first_forms}
use Rattle.pricing.specs.Measures.{meaning}
use Rattle.frontier.specs.Written.{either_meaning}
use Rattle.frontier.proofs.Reach.{limited_wires}
use Rattle.frontier.proofs.Writings.{forms_write, all_written}
use Rattle.frontier.proofs.two_kinds.first_written_holds.Goals as goal

pub returns : goal.returns
returns g c =
    let f = g.P.DelayMeasure in
    let s = g.Q.DelayMeasure in
    let laws = g.met.P.DelayMeasure.lawful in
    λ p book d ok.
    all_written (meaning f p) (either_meaning f s (Left p)) (from_first (f.below p) f.EMPTY) (laws p)
    (forms_write (meaning f p) (f.reach p) Empty (to_first f.EMPTY) (from_first (f.below p) f.EMPTY) (laws p) (first_forms f s laws p))
    book d (limited_wires d ok)
