-- A drawing with no history is led to by no changes.
use Rattle.bundle.proofs.Held.{led_first}
use Rattle.bundle.proofs.bundles.Bundle.of_drawing.Goals as goal

pub invariant_of-result-clause-led : goal.invariant_of-result-clause-led
invariant_of-result-clause-led c = ∣ led_first c.args.drawing ∣₁
