use Rattle.std.proofs.Common.{◌+◌, ◌++◌, length, take, sym, ap, ◌∙◌, arith, rules}
use Rattle.std.specs.List.{flat_map}
use Rattle.std.proofs.lemmas.List.{take_all}
use Rattle.text.specs.Lines.{placed}
use Rattle.text.proofs.Placed.{placed_none}
use Rattle.sheets.specs.Texts.{wire_text}
use Rattle.writers.proofs.Parts.{parts_more, parts_le, length_more, behind, blank}
use Rattle.writers.proofs.whole.put_wires.Goals as goal

pub loop-wire-init : goal.loop-wire-init
loop-wire-init c = (omega arith, omega arith, placed_none c.args.text.now c.args.at)

pub returns-in_err-end : goal.returns-in_err-end
returns-in_err-end c =
    let x = c.in_err-end.ensures.cases in
    let n = ap length c.wire_line.ensures in
    let l = length_more wire_text c.args.wires.now c.loop-wire.wire-index blank c.loop-wire-test.true in
    let m = parts_le wire_text c.args.wires.now (c.loop-wire.wire-index + 1) in
    rw c.from_residual.ensures (omega arith)

pub loop-wire-preserved : goal.loop-wire-preserved
loop-wire-preserved c =
    let x = c.in_ok-end.ensures.cases in
    let n = ap length c.wire_line.ensures in
    let e = parts_more wire_text c.args.wires.now c.loop-wire.wire-index blank c.loop-wire-test.true in
    let l = length_more wire_text c.args.wires.now c.loop-wire.wire-index blank c.loop-wire-test.true in
    let s = flat_map wire_text (take c.loop-wire.wire-index c.args.wires.now) in (
      omega arith,
      omega arith,
      behind c.args.text.now c.loop-wire.text c.add.new.text c.args.at c.loop-wire.end s c.wire_line.result
          c.loop-wire.invariant.2 c.loop-wire.invariant.0 (omega arith) x.2
          ∙ ap (placed c.args.text.now c.args.at) (ap (λ w. s ++ w) c.wire_line.ensures ∙ sym e),
    )

pub returns : goal.returns
returns c = search (rules, take_all)
