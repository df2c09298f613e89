use Rattle.std.proofs.Common.{◌≡◌, map, take, Ok, Err, string_bytes, Option, sym, ap, ◌∙◌}
use Rattle.drawing.specs.Shown.{plan_of}
use Rattle.drawing.proofs.Sounds.{sound_of}
use Rattle.sheets.specs.Reads.{read_sheet}
use Rattle.quotes.specs.Answers.{answer_to, answered}
use Rattle.quotes.specs.Asked.{Asked, asked}
use Rattle.quotes.proofs.Longs.{held_of, quoted_as_asked}
use Rattle.quotes.proofs.quotes.quoted.Goals as goal

pub returns-in-Ok : goal.returns-in-Ok
returns-in-Ok c =
    let h = held_of c.in-Some.request (asked (map string_bytes c.args.args.now)) c.in-Some.ensures in
    let s : Ok (plan_of c.in-Ok.drawing) ≡ read_sheet (take 4096 c.args.input.now) = c.in-Ok.ensures.answer ∙ ap read_sheet c.sheet_part.ensures in
    c.quote_by.ensures
    ∙ quoted_as_asked c.in-Some.request h.ask (plan_of c.in-Ok.drawing) (sound_of c.in-Ok.drawing).few h.by_is h.wide_is h.apart_is
    ∙ ap (answered h.ask) s
    ∙ ap (λ (q : Option Asked). answer_to q (take 4096 c.args.input.now)) (sym h.is)

pub returns-in-Err : goal.returns-in-Err
returns-in-Err c =
    let h = held_of c.in-Some.request (asked (map string_bytes c.args.args.now)) c.in-Some.ensures in
    let s : Err c.in-Err.fault ≡ read_sheet (take 4096 c.args.input.now) = c.in-Err.ensures.answer ∙ ap read_sheet c.sheet_part.ensures in
    c.refusal.ensures
    ∙ ap (answered h.ask) s
    ∙ ap (λ (q : Option Asked). answer_to q (take 4096 c.args.input.now)) (sym h.is)
