use Rattle.std.proofs.Common.{◌≡◌, ℕ, List, ◌++◌, length, ap, ◌∙◌, subst, arith}
use Rattle.std.specs.List.{flat_map}
use Rattle.drawing.specs.declared.words.Grid.{Grid}
use Rattle.drawing.specs.declared.words.Wire.{Wire}
use Rattle.drawing.specs.Shown.{plan_of}
use Rattle.writers.specs.Puts.{Puts}
use Rattle.sheets.specs.Texts.{head_text, wire_text, end_text, sheet_text}
use Rattle.writers.proofs.Parts.{length_three, third_put}
use Rattle.writers.proofs.whole.put_sheet.Goals as goal

-- a head made of what a drawing shows
head_shown : (h : List ℕ) (g grid : Grid) (n channel : ℕ) → h ≡ head_text g n → g ≡ grid → n ≡ channel → h ≡ head_text grid channel
head_shown h g grid n channel e eg en = e ∙ (ap (λ (x : Grid). head_text x n) eg ∙ ap (head_text grid) en)

pub returns-in_err-head : goal.returns-in_err-head
returns-in_err-head c =
    let p = plan_of c.args.drawing.now in
    let h = head_shown _ _ _ _ _ c.head_line.ensures c.grid.ensures c.channel.ensures in
    let x = c.in_err-head.ensures.cases in
    let l = length_three (head_text p.grid p.channel) (flat_map wire_text p.wires) (end_text (length p.wires)) in
    rw c.from_residual.ensures (omega (arith, ap length h))

pub returns-in_err-body : goal.returns-in_err-body
returns-in_err-body c =
    let p = plan_of c.args.drawing.now in
    let h = head_shown _ _ _ _ _ c.head_line.ensures c.grid.ensures c.channel.ensures in
    let j = ap (λ (ws : List Wire). length (flat_map wire_text ws)) c.wires-wires.ensures in
    let x = c.in_ok-head.ensures.cases in
    let y = c.in_err-body.ensures in
    let l = length_three (head_text p.grid p.channel) (flat_map wire_text p.wires) (end_text (length p.wires)) in
    rw c.from_residual-in_err-body.ensures (omega (arith, ap length h))

pub returns : goal.returns
returns c =
    let p = plan_of c.args.drawing.now in
    let h = head_shown _ _ _ _ _ c.head_line.ensures c.grid.ensures c.channel.ensures in
    let j = ap (flat_map wire_text) c.wires-wires.ensures in
    let e = c.end_line.ensures ∙ ap (λ (ws : List Wire). end_text (length ws)) c.wires-wires.ensures in
    let x = c.in_ok-head.ensures.cases in
    let y = c.in_ok-body.ensures in
    let whole : c.head_line.result ++ (flat_map wire_text c.wires-wires.result.now ++ c.end_line.result) ≡ sheet_text p = rw (h, j, e) in
    subst (λ (s : List ℕ). Puts c.add-2.result s 0 c.args.text.now c.add-2.new.text) whole
    (third_put c.add-2.result c.args.text.now c.add.new.text c.put_wires.new.text c.add-2.new.text c.in_ok-head.head c.in_ok-body.body
    c.head_line.result (flat_map wire_text c.wires-wires.result.now) c.end_line.result
    x.2 (omega arith) y.2 y.0 (omega arith) c.add-2.ensures.cases)
