use Rattle.std.proofs.Common.{◌≡◌, ◌+◌, ◌/◌, [], ◌∷◌, ◌++◌, length, sym, ap, ◌∙◌, append_assoc, arith}
use Rattle.std.proofs.lemmas.List.{append-nil}
use Rattle.text.specs.Runs.{run_text}
use Rattle.text.proofs.Runs.{digits_left, left_all, left_none, left_gap, left_moved}
use Rattle.text.proofs.lines.Line.run.Goals as goal
use Rattle.text.proofs.lines.Line.run.Goals.{then-rest-eq1, else-rest-eq1}

pub loop-digit-init : goal.loop-digit-init
loop-digit-init c = (ap (λ x. c.push.new.self.items ++ x) (left_all c.args.set), omega arith)

pub loop-digit-preserved : goal.loop-digit-preserved
loop-digit-preserved c =
    let d = c.loop-digit.digit in
    let s = c.loop-digit.rest in
    elim c.if-rest-eq1.branch [
      | then-rest-eq1 w ↦
          (let n = ap (λ l. l.bytes.items) w.self-inside-is in
          let x = w.push-then-rest-eq1.ensures in (
            left_moved c.loop-digit.self-inside.bytes.items c.if-rest-eq1.self-inside.bytes.items _ d s (omega arith) (omega arith) w.if-rest-eq1.true (n ∙ x.items) c.loop-digit.invariant.0,
            omega (arith, ap length n, x.len),
          ))
      | else-rest-eq1 w ↦
          (let n = ap (λ l. l.bytes.items) w.self-inside-is in
          let g = left_gap d s (omega arith) (omega arith) w.if-rest-eq1.false in (
            ap (λ x. x ++ digits_left (d + 1) (s / 2)) n ∙ (ap (λ x. c.loop-digit.self-inside.bytes.items ++ x) (sym g) ∙ c.loop-digit.invariant.0),
            omega (arith, ap length n),
          ))
    ]

pub returns-clause-text : goal.returns-clause-text
returns-clause-text c =
    let t = c.loop-digit.self-inside.bytes.items in
    let e : c.loop-digit.digit ≡ 55 = omega arith in
    let z : digits_left c.loop-digit.digit c.loop-digit.rest ≡ [] = ap (λ d. digits_left d c.loop-digit.rest) e ∙ left_none c.loop-digit.rest in
    sym (append-nil t)
    ∙ (ap (λ x. t ++ x) (sym z) ∙ (c.loop-digit.invariant.0
    ∙ (ap (λ x. x ++ run_text c.args.set) (c.push.ensures.items ∙ ap (λ x. x ++ 44 ∷ []) c.self.view_is) ∙ append_assoc c.args.self.now (44 ∷ []) (run_text c.args.set))))
