use Rattle.std.proofs.Common.{◌≡◌, true, false, Ok, Err, codes, sym, ap, ◌∙◌}
use Rattle.std.specs.Str.{bytes_eq}
use Rattle.std.proofs.lemmas.Result.{err_from_is_err_and}
use Rattle.text.specs.Cuts.{field_of, line_count}
use Rattle.sheets.proofs.Lines.{wire_read, end_read, lines_after, same_count}
use Rattle.sheets.proofs.reader.Reader.body_line.Goals as goal

pub returns-in_err-wire_fields : goal.returns-in_err-wire_fields
returns-in_err-wire_fields c =
    let p = err_from_is_err_and c.from_residual.result c.from_residual.ensures.1 in
    let at = c.args.self.now in
    let w = c.next_word-word.ensures in
    let s : bytes_eq (field_of at.left) (codes "wire") ≡ true = ap (λ b. bytes_eq b (codes "wire")) (sym w.word) ∙ sym c.is_word.ensures ∙ c.if-is_word.true in
    let k : line_count at.left ≡ 9 = same_count c.fields_in_line-count.result _ 9 c.fields_in_line-count.ensures.count (sym c.ne.ensures ∙ c.if-ne.false) in
    rw (p.1, p.2) record {
      answer = wire_read at c.next_word-word.new.self (Err c.in_err-wire_fields.field-0.0) s k w.stands c.in_err-wire_fields.ensures.answer;
      stands = tt;
    }

pub returns-then-is_word : goal.returns-then-is_word
returns-then-is_word c =
    let at = c.args.self.now in
    let w = c.next_word-word.ensures in
    let x = c.in_ok-wire_fields.ensures in
    let s : bytes_eq (field_of at.left) (codes "wire") ≡ true = ap (λ b. bytes_eq b (codes "wire")) (sym w.word) ∙ sym c.is_word.ensures ∙ c.if-is_word.true in
    let k : line_count at.left ≡ 9 = same_count c.fields_in_line-count.result _ 9 c.fields_in_line-count.ensures.count (sym c.ne.ensures ∙ c.if-ne.false) in
    record {
      answer = wire_read at c.next_word-word.new.self (Ok c.in_ok-wire_fields.field-0) s k w.stands x.answer;
      stands = lines_after 8 at c.next_word-word.new.self c.wire_fields.new.self k w.stands x.stands;
    }

pub returns-in_err-next_number : goal.returns-in_err-next_number
returns-in_err-next_number c =
    let p = err_from_is_err_and c.from_residual-in_err-next_number.result c.from_residual-in_err-next_number.ensures.1 in
    let at = c.args.self.now in
    let w = c.next_word-word.ensures in
    let nw : bytes_eq (field_of at.left) (codes "wire") ≡ false = ap (λ b. bytes_eq b (codes "wire")) (sym w.word) ∙ sym c.is_word.ensures ∙ c.if-is_word.false in
    let s : bytes_eq (field_of at.left) (codes "end") ≡ true = ap (λ b. bytes_eq b (codes "end")) (sym w.word) ∙ sym c.is_word-2.ensures ∙ c.if-is_word-2.true in
    let k : line_count at.left ≡ 2 = same_count c.fields_in_line-count.result _ 2 c.fields_in_line-count.ensures.count (sym c.ne-then-is_word-2.ensures ∙ c.if-ne-2.false) in
    rw (p.1, p.2) record {
      answer = end_read at c.next_word-word.new.self (Err c.in_err-next_number.field-0.0) nw s k w.stands c.in_err-next_number.ensures.answer;
      stands = tt;
    }

pub returns-then-is_word-2 : goal.returns-then-is_word-2
returns-then-is_word-2 c =
    let at = c.args.self.now in
    let w = c.next_word-word.ensures in
    let x = c.in_ok-next_number.ensures in
    let nw : bytes_eq (field_of at.left) (codes "wire") ≡ false = ap (λ b. bytes_eq b (codes "wire")) (sym w.word) ∙ sym c.is_word.ensures ∙ c.if-is_word.false in
    let s : bytes_eq (field_of at.left) (codes "end") ≡ true = ap (λ b. bytes_eq b (codes "end")) (sym w.word) ∙ sym c.is_word-2.ensures ∙ c.if-is_word-2.true in
    let k : line_count at.left ≡ 2 = same_count c.fields_in_line-count.result _ 2 c.fields_in_line-count.ensures.count (sym c.ne-then-is_word-2.ensures ∙ c.if-ne-2.false) in
    record {
      answer = end_read at c.next_word-word.new.self (Ok c.in_ok-next_number.field-0) nw s k w.stands x.answer;
      stands = lines_after 1 at c.next_word-word.new.self c.next_number.new.self k w.stands x.stands;
    }
