use Rattle.std.proofs.Common.{length, ap, ◌∙◌, rules, tests}
use Rattle.drawing.specs.declared.refusals.Refusal.{Refusal}
use Rattle.drawing.specs.declared.words.Edit.TheVariants.{Insert}
use Rattle.drawing.specs.Edits.{Reply, made, unless_refused}
use Rattle.drawing.specs.Shown.{plan_of}
use Rattle.sheets.specs.declared.faults.Fault.{Fault}
use Rattle.sheets.specs.Faults.{bundle_fault, wire_field}
use Rattle.sheets.specs.Reads.{or_placed}
use Rattle.sheets.proofs.Lines.{wire_placed}
use Rattle.sheets.proofs.reader.Reader.take_wire.Goals as goal

pub returns-clause-answer : goal.returns-clause-answer
returns-clause-answer c =
    let p = plan_of c.args.drawing.now in
    let w = c.args.wire in
    let e = Insert (length p.wires) w in
    let place : Refusal → Fault = λ why. bundle_fault c.args.self.now.line why (wire_field w why) in
    wire_placed c.append.result c.map_err.result p (plan_of c.append.new.self) e place _ c.map_err.ensures.cases (λ why f k. search (rules, tests)) c.append.ensures.shows
    ∙ ap (λ (r : Reply). or_placed (unless_refused r (made p e)) place) c.append.ensures.reply
