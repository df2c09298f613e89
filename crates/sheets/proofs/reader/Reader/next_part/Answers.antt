use Rattle.std.proofs.Common.{◌≡◌, length, drop, ap, ◌∙◌, rules}
use Rattle.std.proofs.lemmas.List.{take_rest}
use Rattle.text.specs.Cuts.{field_of, after}
use Rattle.sheets.specs.Places.{Place}
use Rattle.sheets.proofs.Walking.{moved_past, moved_out}
use Rattle.sheets.proofs.reader.Reader.next_part.Goals as goal
use Rattle.sheets.proofs.reader.Reader.next_part.Goals.{then-end-self, else-end-self}

pub returns-clause-stands : goal.returns-clause-stands
returns-clause-stands c =
    let r = c.self.inside in
    let n : c.field_len.result ≡ length (field_of (drop r.at r.bytes.now)) = search (rules, take_rest) in
    let m : drop c.if-end-self.self r.bytes.now ≡ after (drop r.at r.bytes.now) =
    elim c.if-end-self.branch [
      | then-end-self w ↦ ap (λ k. drop k r.bytes.now) w.self-is ∙ moved_past r.bytes.now r.at c.field_len.result n
      | else-end-self w ↦ ap (λ k. drop k r.bytes.now) w.self-is ∙ moved_out r.bytes.now r.at c.field_len.result n w.if-end-self.false
    ] in
    rw (← c.self.view_is) (ap {B = Place} (λ bs. record { line = r.line; left = bs }) m)
