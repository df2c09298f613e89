use Rattle.std.proofs.lemmas.List.Sums.{length-filter}
use Rattle.memchr.specs.Find.{is_byte}
use Rattle.memchr.proofs.lemmas.CallerLemmas.{length-places}
use Rattle.std.proofs.Common.{ap, length, filter, ◌≡◌, ◌==◌, position, take, refl, sym, ◌∙◌, arith}
use Rattle.text.proofs.Counts.{found_first, line_open, line_closed}
use Rattle.text.proofs.fields.fields_in_line.Goals as goal

pub returns-in_err-end : goal.returns-in_err-end
returns-in_err-end c =
    let bs = c.args.bytes.now in
    let p : c.memchr.result ≡ position (λ b. b == 10) bs = found_first bs c.memchr.result c.memchr.ensures in
    let n = line_open bs (sym p ∙ c.in_err-end.was) in
    rw c.from_residual.ensures (record { count = sym n; ended = (λ z. cc, λ z. absurd (omega arith)) })

pub returns : goal.returns
returns c =
    let bs = c.args.bytes.now in
    let p : c.memchr.result ≡ position (λ b. b == 10) bs = found_first bs c.memchr.result c.memchr.ensures in
    let e = line_closed bs c.in_ok-end.end (sym p ∙ c.in_ok-end.was) in
    let n : c.count.result ≡ length (filter (λ b. b == 44) (take c.in_ok-end.end bs)) =
    c.count.ensures ∙ ap length c.memchr_iter.ensures.value ∙ length-places (is_byte 44) (take c.in_ok-end.end bs)
    ∙ sym (length-filter (λ b. b == 44) (take c.in_ok-end.end bs)) in
    record { count = omega arith; ended = (λ z. omega arith, λ z. refl) }
