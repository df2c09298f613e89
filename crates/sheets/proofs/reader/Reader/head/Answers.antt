use Rattle.std.proofs.Common.{◌≡◌, ℕ, true, Ok, Err, codes, sym, ap, ◌∙◌, rules, tests}
use Rattle.std.specs.Str.{bytes_eq}
use Rattle.std.proofs.lemmas.Result.{err_from_is_err_and}
use Rattle.drawing.specs.declared.words.Grid.{Grid}
use Rattle.drawing.specs.Shown.{planned}
use Rattle.text.specs.Cuts.{field_of, line_count}
use Rattle.sheets.specs.Places.{Place}
use Rattle.sheets.proofs.Lines.{opens, head_read, head_placed, head_bare, on_either, lines_after, same_count}
use Rattle.sheets.proofs.reader.Reader.head.Goals as goal

pub returns-in_err-channel : goal.returns-in_err-channel
returns-in_err-channel c =
    let p = err_from_is_err_and c.from_residual.result c.from_residual.ensures.1 in
    let at = c.args.self.now in
    let w = c.next_word-word.ensures in
    let s : bytes_eq (field_of at.left) (codes "sheet") ≡ true = ap (λ b. bytes_eq b (codes "sheet")) (sym w.word) ∙ sym c.is_word.ensures ∙ c.if-not-is_word.false in
    let k : line_count at.left ≡ 4 = same_count c.fields_in_line-count.result _ 4 c.fields_in_line-count.ensures.count (sym c.ne.ensures ∙ c.if-ne.false) in
    rw (p.1, p.2) record {
      answer = head_read at c.next_word-word.new.self (Err c.in_err-channel.field-0.0) s k c.requires w.stands c.in_err-channel.ensures.answer;
      stands = tt;
      wireless = tt;
    }

pub returns : goal.returns
returns c =
    let at = c.args.self.now in
    let w = c.next_word-word.ensures in
    let x = c.in_ok-channel.ensures in
    let y : ℕ × Grid = (c.in_ok-channel.channel, c.in_ok-channel.grid) in
    let s : bytes_eq (field_of at.left) (codes "sheet") ≡ true = ap (λ b. bytes_eq b (codes "sheet")) (sym w.word) ∙ sym c.is_word.ensures ∙ c.if-not-is_word.false in
    let k : line_count at.left ≡ 4 = same_count c.fields_in_line-count.result _ 4 c.fields_in_line-count.ensures.count (sym c.ne.ensures ∙ c.if-ne.false) in
    let l : c.head_fields.new.self.line ≡ 1 = ap (λ (z : Place). z.line) x.stands ∙ (ap (λ (z : Place). z.line) w.stands ∙ c.requires) in
    let e : planned c.map_err.result ≡ opens y = head_placed c.open.result c.map_err.result y _ c.map_err.ensures.cases (λ why f q. search (rules, tests)) c.open.ensures in
    record {
      answer = e ∙ head_read at c.next_word-word.new.self (Ok y) s k c.requires w.stands x.answer;
      stands = on_either c.map_err.result _ (lines_after 3 at c.next_word-word.new.self c.head_fields.new.self k w.stands x.stands);
      wireless = head_bare c.map_err.result y e;
    }
