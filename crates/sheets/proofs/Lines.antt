-- A line of the right word and count, as the reader's steps give it.
use Rattle.std.proofs.Common.{◌≡◌, ℕ, suc, true, false, cond, not, eqb, List, [], length, Some, None, Ok, Err, codes, Option, Result, MatchResult, IfOk, OnOk, sym, refl, ap, ◌∙◌, arith}
use Rattle.std.specs.Str.{bytes_eq}
use Rattle.drawing.specs.declared.words.Grid.{Grid}
use Rattle.drawing.specs.declared.words.Wire.{Wire}
use Rattle.drawing.specs.declared.refusals.Refusal.{Refusal}
use Rattle.std.specs.Option.{unwrap_or, option_eq}
use Rattle.std.specs.Result.{IsErrAnd}
use Rattle.std.proofs.lemmas.Bool.{eqb-true, not-false}
use Rattle.drawing.specs.declared.drawings.Drawing.{Drawing}
use Rattle.drawing.specs.declared.words.Edit.{Edit}
use Rattle.drawing.specs.Plans.{Plan}
use Rattle.drawing.specs.Shown.{plan_of, planned}
use Rattle.drawing.specs.Edits.{Reply, opened, bare, unless_refused, first_reason, open_reasons, edited, made}
use Rattle.text.specs.Cuts.{cut_first, cut_rest, cut_at, line_count, field_of, after}
use Rattle.sheets.specs.declared.faults.Fault.{Fault}
use Rattle.sheets.specs.declared.reading.Body.TheVariants.{AWire, TheEnd}
use Rattle.sheets.specs.Faults.{line_fault, word_fault, bundle_fault, head_field}
use Rattle.sheets.specs.Reads.{and_then, refuse_if, or_placed, number_at, wire_from, head_from, body_line, head_line}
use Rattle.sheets.specs.Places.{Place, after_fields, past, PastLine}
use Rattle.sheets.specs.Walks.{number_front, run_front, wire_front, head_front, going_on}
use Rattle.sheets.proofs.Walking.{Walk, walk, counted, wire_walk, end_walk}

-- the steps through a line that counts n + 1 fields
pub walk_counted : (n : ℕ) (bs : List ℕ) → line_count bs ≡ suc n → Walk n bs
walk_counted n bs e =
    let k = counted (cut_rest 10 bs) (length (cut_at 44 (cut_first 10 bs))) (suc n) e (omega arith) in
    walk n bs k.0 k.1

-- a wire line
pub wire_line_is : (line : ℕ) (bs : List ℕ) → bytes_eq (field_of bs) (codes "wire") ≡ true → line_count bs ≡ 9
    → body_line line (line_count bs) (cut_first 10 bs) ≡ and_then (wire_front line (after bs)) (λ w. Ok (AWire w))
wire_line_is line bs s e =
    ap (λ b. cond b
    (refuse_if (not (eqb (line_count bs) 9)) (line_fault line) (and_then (wire_from line (cut_at 44 (cut_first 10 bs))) (λ w. Ok (AWire w))))
    (cond (bytes_eq (field_of bs) (codes "end"))
    (refuse_if (not (eqb (line_count bs) 2)) (line_fault line) (and_then (number_at line 2 (cut_at 44 (cut_first 10 bs))) (λ n. Ok (TheEnd n))))
    (Err (word_fault line)))) s
    ∙ ap (λ k. refuse_if (not (eqb k 9)) (line_fault line) (and_then (wire_from line (cut_at 44 (cut_first 10 bs))) (λ w. Ok (AWire w)))) e
    ∙ ap (λ (r : Result _ Fault). and_then r (λ w. Ok (AWire w))) (sym (wire_walk line bs (walk_counted 8 bs e)))

-- an end line
pub end_line_is : (line : ℕ) (bs : List ℕ) → bytes_eq (field_of bs) (codes "wire") ≡ false → bytes_eq (field_of bs) (codes "end") ≡ true → line_count bs ≡ 2
    → body_line line (line_count bs) (cut_first 10 bs) ≡ and_then (number_front line 2 (after bs)) (λ n. Ok (TheEnd n))
end_line_is line bs nw s e =
    ap (λ b. cond b
    (refuse_if (not (eqb (line_count bs) 9)) (line_fault line) (and_then (wire_from line (cut_at 44 (cut_first 10 bs))) (λ w. Ok (AWire w))))
    (cond (bytes_eq (field_of bs) (codes "end"))
    (refuse_if (not (eqb (line_count bs) 2)) (line_fault line) (and_then (number_at line 2 (cut_at 44 (cut_first 10 bs))) (λ n. Ok (TheEnd n))))
    (Err (word_fault line)))) nw
    ∙ ap (λ b. cond b
    (refuse_if (not (eqb (line_count bs) 2)) (line_fault line) (and_then (number_at line 2 (cut_at 44 (cut_first 10 bs))) (λ n. Ok (TheEnd n))))
    (Err (word_fault line))) s
    ∙ ap (λ k. refuse_if (not (eqb k 2)) (line_fault line) (and_then (number_at line 2 (cut_at 44 (cut_first 10 bs))) (λ n. Ok (TheEnd n)))) e
    ∙ ap (λ (r : Result _ Fault). and_then r (λ n. Ok (TheEnd n))) (sym (end_walk line bs (walk_counted 1 bs e)))

-- three steps and what follows them
three_then : {X Y : Type 0} (x y z : Result ℕ Fault) (k : ℕ → ℕ → ℕ → X) (go : X → Result Y Fault)
    → and_then (and_then x (λ a. and_then y (λ b. and_then z (λ c. Ok (k a b c))))) go ≡ and_then x (λ a. and_then y (λ b. and_then z (λ c. go (k a b c))))
three_then (Err f) y z k go = refl
three_then (Ok a) (Err f) z k go = refl
three_then (Ok a) (Ok b) (Err f) k go = refl
three_then (Ok a) (Ok b) (Ok c) k go = refl

-- what a head opens
abbrev pub opens : ℕ × Grid → Result Plan Fault
opens x = or_placed (opened x.1 x.0) (λ why. bundle_fault 1 why (head_field why))

-- a head line
pub head_line_is : (bs : List ℕ) → bytes_eq (field_of bs) (codes "sheet") ≡ true → line_count bs ≡ 4
    → head_line (line_count bs) (cut_first 10 bs) ≡ and_then (head_front 1 (after bs)) opens
head_line_is bs s e =
    let w = walk_counted 3 bs e in
    ap (λ b. refuse_if (not b) (word_fault 1) (refuse_if (not (eqb (line_count bs) 4)) (line_fault 1) (head_from (cut_at 44 (cut_first 10 bs))))) s
    ∙ ap (λ k. refuse_if (not (eqb k 4)) (line_fault 1) (head_from (cut_at 44 (cut_first 10 bs)))) e
    ∙ rw (w.fields 1 (omega arith), w.fields 2 (omega arith), w.fields 3 (omega arith))
    (sym (three_then (number_front 1 2 (after bs)) (run_front 1 3 (after_fields 1 (after bs))) (run_front 1 4 (after_fields 2 (after bs)))
    (λ channel widths spaces. (channel, record { widths = widths; spaces = spaces })) opens))

-- a count that is told to be m is m
pub same_count : (o : Option ℕ) (n m : ℕ) → unwrap_or o 0 ≡ n → not (option_eq eqb o (Some m)) ≡ false → n ≡ m
same_count None n m e t = absurd cc
same_count (Some k) n m e t = sym e ∙ eqb-true k m (not-false (eqb k m) t)

-- what the steps past a line's word give is what the line says
pub wire_read : (p q : Place) (r : Result Wire Fault) → bytes_eq (field_of p.left) (codes "wire") ≡ true → line_count p.left ≡ 9
    → q ≡ past 1 p → r ≡ wire_front q.line q.left → and_then r (λ w. Ok (AWire w)) ≡ body_line p.line (line_count p.left) (cut_first 10 p.left)
wire_read p q r s e b a =
    ap (λ (x : Result Wire Fault). and_then x (λ w. Ok (AWire w))) (a ∙ ap (λ (z : Place). wire_front z.line z.left) b)
    ∙ sym (wire_line_is p.line p.left s e)

pub end_read : (p q : Place) (r : Result ℕ Fault) → bytes_eq (field_of p.left) (codes "wire") ≡ false → bytes_eq (field_of p.left) (codes "end") ≡ true
    → line_count p.left ≡ 2 → q ≡ past 1 p → r ≡ number_front q.line 2 q.left → and_then r (λ n. Ok (TheEnd n)) ≡ body_line p.line (line_count p.left) (cut_first 10 p.left)
end_read p q r nw s e b a =
    ap (λ (x : Result ℕ Fault). and_then x (λ n. Ok (TheEnd n))) (a ∙ ap (λ (z : Place). number_front z.line 2 z.left) b)
    ∙ sym (end_line_is p.line p.left nw s e)

pub head_read : (p q : Place) (r : Result (ℕ × Grid) Fault) → bytes_eq (field_of p.left) (codes "sheet") ≡ true → line_count p.left ≡ 4
    → p.line ≡ 1 → q ≡ past 1 p → r ≡ head_front q.line q.left → and_then r opens ≡ head_line (line_count p.left) (cut_first 10 p.left)
head_read p q r s e l b a =
    ap (λ (x : Result (ℕ × Grid) Fault). and_then x opens) (a ∙ ap (λ (z : Place). head_front z.line z.left) b ∙ ap (λ k. head_front k (after p.left)) l)
    ∙ sym (head_line_is p.left s e)

-- past the fields of a line stand the lines after it
pub lines_after : (n : ℕ) (p q r : Place) → line_count p.left ≡ suc n → q ≡ past 1 p → r ≡ past n q → PastLine p r
lines_after n p q r e b a =
    let c : r ≡ past n (past 1 p) = a ∙ ap (past n) b in
    ((walk_counted n p.left e).lines ∙ ap (λ (z : Place). cut_at 10 z.left) (sym c), ap (λ (z : Place). z.line) c)

-- what opening answers is placed in the head line
pub head_placed : (r : Result Drawing Refusal) (s : Result Drawing Fault) (x : ℕ × Grid) (Q : Refusal → Fault → Type 0)
    → MatchResult r (λ d. s ≡ Ok d) (λ why. IsErrAnd s (Q why)) → ((why : Refusal) (f : Fault) → Q why f → f ≡ bundle_fault 1 why (head_field why))
    → planned r ≡ opened x.1 x.0 → planned s ≡ opens x
head_placed (Ok d) s x Q m k e =
    ap (λ (z : Result Drawing Fault). planned z) m ∙ ap (λ (o : Result Plan Refusal). or_placed o (λ why. bundle_fault 1 why (head_field why))) e
head_placed (Err why) (Ok d) x Q m k e = absurd m
head_placed (Err why) (Err f) x Q m k e =
    ap {B = Result Plan Fault} (λ (g : Fault). Err g) (k why f m) ∙ ap (λ (o : Result Plan Refusal). or_placed o (λ why. bundle_fault 1 why (head_field why))) e

-- what appending answers is placed in the wire's line
pub wire_placed : (r : Reply) (s : Result (Unit {0}) Fault) (p q : Plan) (e : Edit) (place : Refusal → Fault) (Q : Refusal → Fault → Type 0)
    → MatchResult r (λ u. s ≡ Ok u) (λ why. IsErrAnd s (Q why)) → ((why : Refusal) (f : Fault) → Q why f → f ≡ place why)
    → q ≡ edited r p e → going_on s q ≡ or_placed (unless_refused r (made p e)) place
wire_placed (Ok u) s p q e place Q m k h = ap (λ (z : Result (Unit {0}) Fault). going_on z q) m ∙ ap {B = Result Plan Fault} (λ (z : Plan). Ok z) h
wire_placed (Err why) (Ok u) p q e place Q m k h = absurd m
wire_placed (Err why) (Err f) p q e place Q m k h = ap {B = Result Plan Fault} (λ (g : Fault). Err g) (k why f m)

-- what holds whatever is answered
pub on_either : {X Y : Type 0} (r : Result X Y) (P : Type 0) → P → OnOk r P
on_either (Ok x) P h = h
on_either (Err y) P h = tt

-- an opened drawing has no wires
bare_of : (r : Reply) (q p : Plan) → Ok p ≡ unless_refused r q → p ≡ q
bare_of (Ok u) q p e = cc
bare_of (Err why) q p e = absurd (let z : ◌≡◌ {A = ℕ} 0 1 = cc in omega arith)

pub opened_bare : (grid : Grid) (channel : ℕ) (p : Plan) → Ok p ≡ opened grid channel → p.wires ≡ []
opened_bare grid channel p e = ap (λ (q : Plan). q.wires) (bare_of (first_reason (open_reasons grid channel)) (bare grid channel) p e)

-- what is placed and accepted was accepted
unplaced : (o : Result Plan Refusal) (p : Plan) (place : Refusal → Fault) → Ok p ≡ or_placed o place → Ok p ≡ o
unplaced (Ok q) p place e = cc
unplaced (Err why) p place e = absurd cc

-- a head's drawing has no wires
pub head_bare : (s : Result Drawing Fault) (x : ℕ × Grid) → planned s ≡ opens x → IfOk s (λ d. (plan_of d).wires ≡ [])
head_bare (Ok d) x e = opened_bare x.1 x.0 (plan_of d) (unplaced (opened x.1 x.0) (plan_of d) (λ why. bundle_fault 1 why (head_field why)) e)
head_bare (Err f) x e = tt
