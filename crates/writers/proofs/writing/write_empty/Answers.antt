use Rattle.std.proofs.Common.{◌≡◌, ℕ, length, Err, Result, sym, ap, ◌∙◌, arith}
use Rattle.std.proofs.lemmas.Result.{err_from_is_err_and}
use Rattle.drawing.specs.declared.refusals.Refusal.{Refusal}
use Rattle.writers.specs.declared.states.Ended.{Ended}
use Rattle.writers.specs.Puts.{ended_len}
use Rattle.writers.proofs.Empties.{head_refused, end_refused, both_put}
use Rattle.writers.proofs.writing.write_empty.Goals as goal

-- a refusal that is handed on
handed : (r : Result Ended Refusal) (y why : Refusal) (reply : Result ℕ Refusal) → r ≡ Err y → y ≡ why → reply ≡ Err why → ended_len r ≡ reply
handed r y why reply e w p = ap ended_len e ∙ (ap (λ (x : Refusal). Err x) w ∙ sym p)

pub returns-in_err-headed : goal.returns-in_err-headed
returns-in_err-headed c =
    let p = err_from_is_err_and c.from_residual.result c.from_residual.ensures.1 in
    let x = c.in_err-headed.ensures in
    let y = head_refused c.args.grid c.args.channel (length c.args.text.now) c.begin-begun.result.len c.in_err-headed.field-0.0.why
    c.args.text.now c.head.new.text c.begin-begun.ensures x.0 x.2 in
    record { reply = handed _ _ _ _ p.1 p.2 y.0; holds = y.1 }

pub returns-in_err-ended : goal.returns-in_err-ended
returns-in_err-ended c =
    let p = err_from_is_err_and c.from_residual-in_err-ended.result c.from_residual-in_err-ended.ensures.1 in
    let h = c.in_ok-headed.ensures in
    let x = c.in_err-ended.ensures in
    let y = end_refused c.args.grid c.args.channel (length c.args.text.now) (length c.head.new.text) c.begin-begun.result.len
    c.in_ok-headed.headed.len c.in_ok-headed.headed.count c.in_err-ended.field-0.0.why
    c.args.text.now c.head.new.text c.end.new.text c.begin-begun.ensures h.1.3 (omega arith) h.1.0 h.0 h.2 x.0 x.2 in
    record { reply = handed _ _ _ _ p.1 p.2 y.0; holds = y.1 }

pub returns : goal.returns
returns c =
    let h = c.in_ok-headed.ensures in
    let x = c.in_ok-ended.ensures in
    let y = both_put c.args.grid c.args.channel (length c.args.text.now) (length c.head.new.text) c.begin-begun.result.len
    c.in_ok-headed.headed.len c.in_ok-headed.headed.count c.in_ok-ended.ended.len
    c.args.text.now c.head.new.text c.end.new.text c.begin-begun.ensures h.1.3 (omega arith) (omega arith) h.1.0 h.0 h.2 x.0 x.1 x.2 in
    record { reply = y.0; holds = y.1 }
