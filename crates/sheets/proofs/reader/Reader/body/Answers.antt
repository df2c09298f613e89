use Rattle.std.proofs.Common.{◌≡◌, ◌≤◌, Ok, Result, sym, ap, ◌∙◌, arith}
use Rattle.std.proofs.lemmas.Result.{err_from_is_err_and}
use Rattle.drawing.specs.Shown.{plan_of}
use Rattle.drawing.proofs.Sounds.{held}
use Rattle.text.specs.Cuts.{cut_first, cut_rest, line_count}
use Rattle.sheets.specs.declared.faults.Fault.{Fault}
use Rattle.sheets.specs.declared.reading.Body.{Body}
use Rattle.sheets.specs.declared.reading.Body.TheVariants.{AWire}
use Rattle.sheets.specs.Faults.{bundle_fault, wire_field}
use Rattle.sheets.specs.Places.{Place}
use Rattle.sheets.specs.Reads.{body_line, read_body}
use Rattle.sheets.proofs.Steps.{one_more, wire_goes, wire_stops}
use Rattle.sheets.proofs.reader.Reader.body.Goals as goal

pub returns-in_err-take_wire-in-AWire : goal.returns-in_err-take_wire-in-AWire
returns-in_err-take_wire-in-AWire c =
    let p = err_from_is_err_and c.from_residual-in_err-take_wire-in-AWire.result c.from_residual-in_err-take_wire-in-AWire.ensures.1 in
    let at = c.lines.self in
    let x = c.in_ok-wire.ensures in
    let w = c.in-AWire.wire in
    let g : Ok (AWire w) ≡ body_line at.line (line_count at.left) (cut_first 10 at.left) = ap {B = Result Body Fault} (λ (b : Body). Ok b) (sym c.in-AWire.is) ∙ x.answer in
    rw (p.1, p.2) (sym (c.lines.invariant.0 ∙ wire_stops at.line c.body_line.new.self.line (plan_of c.lines.drawing) c.in_err-take_wire-in-AWire.field-0.0 at.left c.body_line.new.self.left w
    x.stands.1 x.stands.0 g c.in_err-take_wire-in-AWire.ensures.answer))

pub lines-smaller : goal.lines-smaller
lines-smaller c =
    let m = one_more (plan_of c.lines.drawing) (plan_of c.take_wire.new.drawing) c.in-AWire.wire (λ why. bundle_fault c.body_line.new.self.line why (wire_field c.in-AWire.wire why)) c.in_ok-take_wire-in-AWire.ensures.answer in
    let h = held c.take_wire.new.drawing in
    let k : c.take_wire.new.drawing.count ≤ 24 = c.take_wire.new.drawing.within in
    omega arith

pub lines-preserved : goal.lines-preserved
lines-preserved c =
    let at = c.lines.self in
    let x = c.in_ok-wire.ensures in
    let w = c.in-AWire.wire in
    let q = plan_of c.take_wire.new.drawing in
    let g : Ok (AWire w) ≡ body_line at.line (line_count at.left) (cut_first 10 at.left) = ap {B = Result Body Fault} (λ (b : Body). Ok b) (sym c.in-AWire.is) ∙ x.answer in
    let m = one_more (plan_of c.lines.drawing) q w (λ why. bundle_fault c.body_line.new.self.line why (wire_field w why)) c.in_ok-take_wire-in-AWire.ensures.answer in
    let i = c.lines.invariant.1 in
    let l = x.stands.1 in
    let n = ap (λ (z : Place). z.line) c.count_line.ensures in (
      c.lines.invariant.0
          ∙ (wire_goes at.line c.body_line.new.self.line (plan_of c.lines.drawing) q at.left c.body_line.new.self.left w l x.stands.0 g c.in_ok-take_wire-in-AWire.ensures.answer
          ∙ ap (λ (z : Place). read_body z.line q (cut_first 10 z.left) (cut_rest 10 z.left)) (sym c.count_line.ensures)),
      omega arith,
    )
