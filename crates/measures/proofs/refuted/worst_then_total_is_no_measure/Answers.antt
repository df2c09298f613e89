-- (3, 6) is in reach of two wires and (4, 4) of one, so the laws would keep their order.
use mathlib.Core.Path.{refl}
use borrow.Author.Tests.{clash}
use lib.Dec.{lit<, lit≤}
use Rattle.measures.specs.Refuted.{worst_total, worst_total_made, NoMeasure}
use Rattle.measures.proofs.refuted.worst_then_total_is_no_measure.Goals as goal

no_measure : NoMeasure
no_measure none near l =
    let three = l.made_reach 3 0 (lit< tt) in
    let four = l.made_reach 4 0 (lit< tt) in
    let twice_three = l.joined_reach 1 1 (worst_total_made 3 0) (worst_total_made 3 0) (lit≤ tt) three three in
    clash (l.steady_right 2 1 1 (worst_total 3 6) (worst_total 4 4) (worst_total 4 4) (lit≤ tt) (lit≤ tt) twice_three four four refl)

pub returns : goal.returns
returns c = record { values = refl; first_joined = refl; second_joined = refl; unsteady = record { before = refl; after = refl }; refuted = no_measure }
