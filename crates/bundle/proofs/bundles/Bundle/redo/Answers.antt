-- The drawing and the first later one are exchanged.
use Rattle.std.proofs.Common.{◌<◌, sym, ◌∙◌, arith}
use borrow.Author.Tests.{clash}
use Rattle.std.proofs.lemmas.List.{length-set}
use Rattle.drawing.specs.declared.refusals.Refusal.TheVariants.{NothingToRedo}
use Rattle.bundle.specs.declared.changes.Change.TheVariants.{Redo}
use Rattle.bundle.specs.Shown.{view}
use Rattle.bundle.proofs.Held.{led_on, reply_some, redo_exchange, answers}
use Rattle.bundle.proofs.bundles.Bundle.redo.Goals as goal

pub invariant_of-self : goal.invariant_of-self
invariant_of-self c =
    let b = c.args.self.now in
    let w = b.within in
    let lt : 0 < b.undone = omega (arith, c.if-self-eq0.false) in
    let swap = c.swap.ensures in
    record {
      whole = length-set b.timeline _ _ ∙ b.whole;
      within = omega arith;
      led = led_on (view b) _ Redo b.led (redo_exchange b _ _ _ lt swap.x_after swap.y_after);
    }

pub returns : goal.returns
returns c =
    let b = c.args.self.now in
    let lt : 0 < b.undone = omega (arith, c.if-self-eq0.false) in
    let swap = c.swap.ensures in
    answers _ _ _ _ (sym (reply_some b.undone NothingToRedo lt)) (redo_exchange b _ _ _ lt swap.x_after swap.y_after) (λ z. absurd (clash (sym z)))
