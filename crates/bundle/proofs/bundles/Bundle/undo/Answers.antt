-- The drawing and the last earlier one are exchanged.
use Rattle.std.proofs.Common.{◌<◌, sym, ◌∙◌, arith}
use borrow.Author.Tests.{clash}
use Rattle.std.proofs.lemmas.List.{length-set}
use Rattle.drawing.specs.declared.refusals.Refusal.TheVariants.{NothingToUndo}
use Rattle.bundle.specs.declared.changes.Change.TheVariants.{Undo}
use Rattle.bundle.specs.Shown.{view}
use Rattle.bundle.proofs.Held.{led_on, reply_some, undo_exchange, answers}
use Rattle.bundle.proofs.bundles.Bundle.undo.Goals as goal

pub invariant_of-self : goal.invariant_of-self
invariant_of-self c =
    let b = c.args.self.now in
    let w = b.within in
    let lt : 0 < b.reach = omega (arith, c.if-self-eq0.false) in
    let swap = c.swap.ensures in
    record {
      whole = length-set b.timeline _ _ ∙ b.whole;
      within = omega arith;
      led = led_on (view b) _ Undo b.led (undo_exchange b _ _ _ lt swap.x_after swap.y_after);
    }

pub returns : goal.returns
returns c =
    let b = c.args.self.now in
    let lt : 0 < b.reach = omega (arith, c.if-self-eq0.false) in
    let swap = c.swap.ensures in
    answers _ _ _ _ (sym (reply_some b.reach NothingToUndo lt)) (undo_exchange b _ _ _ lt swap.x_after swap.y_after) (λ z. absurd (clash (sym z)))
