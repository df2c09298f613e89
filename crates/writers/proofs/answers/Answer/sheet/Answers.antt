use Rattle.std.proofs.Common.{◌≡◌, length, is_ok, take, replicate, ap, ◌∙◌}
use Rattle.drawing.specs.Shown.{plan_of}
use Rattle.drawing.proofs.Sounds.{sound_of}
use Rattle.sheets.specs.Texts.{sheet_text}
use Rattle.sheets.proofs.Trips.{longest}
use Rattle.writers.proofs.Wholes.{whole_fits, whole_front}
use Rattle.writers.proofs.answers.Answer.sheet.Goals as goal

pub unwrap-len-requires : goal.unwrap-len-requires
unwrap-len-requires c =
    let l = longest (plan_of c.args.drawing.now) (sound_of c.args.drawing.now) in
    ap is_ok (c.write_sheet.ensures.reply ∙ whole_fits (sheet_text (plan_of c.args.drawing.now)) 1207 l)

pub returns : goal.returns
returns c =
    let s = sheet_text (plan_of c.args.drawing.now) in
    let l = longest (plan_of c.args.drawing.now) (sound_of c.args.drawing.now) in
    let f = whole_fits s 1207 l in
    let x = c.write_sheet.ensures.reply in
    let m : c.unwrap-len.result ≡ length s = cc in
    ap (take c.unwrap-len.result) c.write_sheet.ensures.holds ∙ whole_front s (replicate 1207 0) c.unwrap-len.result l m
