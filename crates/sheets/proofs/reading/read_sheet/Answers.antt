use Rattle.std.proofs.Common.{◌≡◌, length, sym, ap, ◌∙◌, arith, rules}
use Rattle.drawing.specs.Shown.{plan_of, planned}
use Rattle.text.specs.Cuts.{cut_first, cut_rest, cut_at}
use Rattle.sheets.specs.Places.{Place}
use Rattle.sheets.specs.Reads.{read_body, read_sheet}
use Rattle.sheets.proofs.Steps.{sheet_goes}
use Rattle.sheets.proofs.Trips.{exactly}
use Rattle.sheets.proofs.reading.read_sheet.Goals as goal

pub body-requires : goal.body-requires
body-requires c =
    let x = c.in_ok-drawing.ensures in
    omega (
      arith,
      ap (λ (z : Place). z.line) c.over-reader.ensures,
      x.stands.1,
      ap (λ (z : Place). z.line) c.count_line.ensures,
      ap length x.wireless,
    )

pub returns-in_err-drawing : goal.returns-in_err-drawing
returns-in_err-drawing c =
    let a : planned c.from_residual.result ≡ read_sheet c.args.bytes.now = search rules in
    record { answer = a; exactly = exactly c.from_residual.result c.args.bytes.now a }

pub returns : goal.returns
returns c =
    let x = c.in_ok-drawing.ensures in
    let p = plan_of c.in_ok-drawing.drawing in
    let q = c.count_line.new.self in
    let two : q.line ≡ 2 = omega (arith, ap (λ (z : Place). z.line) c.over-reader.ensures, x.stands.1, ap (λ (z : Place). z.line) c.count_line.ensures) in
    let a : planned c.body.result ≡ read_sheet c.args.bytes.now =
    sheet_goes c.over-reader.result.left q.left p (planned c.body.result) x.answer (x.stands.0 ∙ ap (λ (z : Place). cut_at 10 z.left) (sym c.count_line.ensures))
    (c.body.ensures ∙ ap (λ k. read_body k p (cut_first 10 q.left) (cut_rest 10 q.left)) two)
    ∙ ap (λ (z : Place). read_sheet z.left) c.over-reader.ensures in
    record { answer = a; exactly = exactly c.body.result c.args.bytes.now a }
