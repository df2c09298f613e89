-- An accepted edit keeps the drawing before it; a refused one leaves the bundle as it was.
use Rattle.std.proofs.Common.{◌≡◌, sym, refl, ap, ◌∙◌, arith}
use borrow.Author.Tests.{clash}
use Rattle.std.proofs.lemmas.Result.{err_from_is_err_and}
use Rattle.bundle.specs.declared.changes.Change.TheVariants.{Make}
use Rattle.bundle.specs.Shown.{view, bundle_reply}
use Rattle.bundle.proofs.Held.{led_on, reply_same, refusal, edit_keep, put_back, answers}
use Rattle.bundle.proofs.bundles.Bundle.edit.Goals as goal

pub returns-in_err-edit : goal.returns-in_err-edit
returns-in_err-edit c =
    let b = c.args.self.now in
    let e = c.args.edit in
    let told = c.in_err-edit.ensures in
    let p = err_from_is_err_and c.from_residual.result c.from_residual.ensures.1 in
    let p1 = p.1 in
    let p2 = p.2 in
    let reply : c.from_residual.result ≡ bundle_reply b (Make e) = cc (told.reply) in
    let same = put_back b _ (told.refused refl) _ _ _ in
    answers _ _ _ _ reply
    (ap view same ∙ refusal (view b) (Make e) _ (sym (reply_same b (Make e)) ∙ sym told.reply))
    (λ z. same)

pub invariant_of-self-2 : goal.invariant_of-self-2
invariant_of-self-2 c =
    let b = c.args.self.now in
    let count = c.keep-self.ensures.count in
    record {
      whole = c.keep-self.auto.timeline ∙ b.whole;
      within = omega arith;
      led = led_on (view b) _ (Make c.args.edit) b.led (edit_keep b _ _ _ c.args.edit c.in_ok-edit.ensures c.keep-self.ensures.past);
    }

pub returns : goal.returns
returns c =
    let b = c.args.self.now in
    let told = c.in_ok-edit.ensures in
    answers _ _ _ _ told.reply (edit_keep b _ _ _ c.args.edit told c.keep-self.ensures.past) (λ z. absurd (clash (sym z)))
