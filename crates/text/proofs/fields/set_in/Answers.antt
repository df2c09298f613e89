use Rattle.std.proofs.Common.{◌≡◌, ◌+◌, ◌-◌, ◌*◌, ◌%◌, ◌^◌, ◌<◌, ◌≤◌, get_or, ap, ◌∙◌, arith, rules}
use Rattle.text.proofs.Steps.{rising_step, set_step, set_more, bit_whole}
use Rattle.text.proofs.fields.set_in.Goals as goal

pub loop-b-preserved : goal.loop-b-preserved
loop-b-preserved c =
    let x = get_or c.args.part.now c.loop-b.b-index 0 in
    let lo : 48 + c.loop-b.low < x = search rules in
    let hi : x ≤ 48 + c.min-last.result = search rules in
    let e : x - 48 - 1 ≡ x - 49 = omega arith in
    let b : 1 * 2 ^ (x - 48 - 1) % 256 ≡ 2 ^ (x - 49) = bit_whole (x - 48 - 1) (omega arith) ∙ ap (λ k. 2 ^ k) e in (
      c.loop-b.invariant.0 ∙ rising_step _ _ _ _ c.loop-b-test.true lo hi,
      omega (arith, b, set_step _ _ c.loop-b-test.true),
      omega (arith, b, set_more c.loop-b.steps c.loop-b.low (x - 48) c.loop-b.invariant.2 (omega arith)),
      omega arith,
    )
