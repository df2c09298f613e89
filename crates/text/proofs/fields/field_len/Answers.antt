use Rattle.std.proofs.Common.{◌≡◌, ◌||◌, ◌==◌, length, take, sym, ap, ◌∙◌, rules, tests, arith}
use Rattle.std.proofs.lemmas.Iterator.{YieldsList-from_slice}
use Rattle.std.proofs.lemmas.Iterator.Search.{position_from_yields_List}
use Rattle.text.specs.Cuts.{field_of}
use Rattle.text.proofs.Counts.{field_ends, field_taken, place_or_len}
use Rattle.text.proofs.Fronts.{field_within}
use Rattle.text.proofs.fields.field_len.Goals as goal

pub returns : goal.returns
returns c =
    let bs = c.args.bytes.now in
    let p = position_from_yields_List (λ b. b == 44 || b == 10) _ _ _ c.position.ensures.ran (YieldsList-from_slice bs (cc)) (λ x b q k. search (rules, tests)) in
    let e : c.unwrap_or.result ≡ length (field_of bs) = c.unwrap_or.ensures ∙ (place_or_len _ bs _ p ∙ sym (field_ends bs)) in
    record { len = e; part = ap (λ n. take n bs) e ∙ field_taken bs; within = omega (arith, field_within bs) }
