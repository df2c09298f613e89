-- One line after another: what a sheet says once its first line is read.
use Rattle.std.proofs.Common.{◌≡◌, ℕ, ◌+◌, ◌<◌, Bool, true, false, cond, not, eqb, List, [], ◌∷◌, length, Ok, Err, Result, sym, refl, ap, ◌∙◌, arith}
use Rattle.std.proofs.lemmas.List.Edits.{length-insert}
use Rattle.std.proofs.lemmas.Bool.{eq-eqb}
use Rattle.drawing.specs.declared.words.Wire.{Wire}
use Rattle.drawing.specs.declared.refusals.Refusal.{Refusal}
use Rattle.drawing.specs.declared.words.Edit.TheVariants.{Insert}
use Rattle.drawing.specs.Plans.{Plan}
use Rattle.drawing.specs.Edits.{Reply, edit_reply, made, unless_refused}
use Rattle.text.specs.Cuts.{cut_first, cut_rest, cut_at, closed_count, line_count}
use Rattle.sheets.specs.declared.faults.Fault.{Fault}
use Rattle.sheets.specs.declared.reading.Body.{Body}
use Rattle.sheets.specs.declared.reading.Body.TheVariants.{AWire}
use Rattle.sheets.specs.Faults.{word_fault, count_fault, bundle_fault, wire_field}
use Rattle.sheets.specs.Reads.{and_then, refuse_if, or_placed, by_body, body_line, head_line, read_body, read_rest, read_sheet, ended, nothing_left, inserted_last}

-- what a line says is followed by what follows it
pub line_goes : (line : ℕ) (p : Plan) (l : List ℕ) (ms : List (List ℕ)) (bs : List ℕ) (b : Body) → ms ≡ cut_at 10 bs
    → body_line line (closed_count ms (length (cut_at 44 l))) l ≡ Ok b
    → read_body line p l ms ≡ by_body b
    (λ w. and_then (or_placed (inserted_last p w) (λ why. bundle_fault line why (wire_field w why))) (λ q. read_body (line + 1) q (cut_first 10 bs) (cut_rest 10 bs)))
    (λ n. ended line p n (cut_first 10 bs) (cut_rest 10 bs))
line_goes line p l [] bs b e g = absurd (let z : ◌≡◌ {A = ℕ} 0 (length (cut_at 10 bs)) = ap length e in omega arith)
line_goes line p l (m ∷ ms) bs b e g =
    ap (λ (r : Result Body Fault). and_then r (λ b.
    by_body b
    (λ w. and_then (or_placed (inserted_last p w) (λ why. bundle_fault line why (wire_field w why))) (λ q. read_body (line + 1) q m ms))
    (λ n. ended line p n m ms))) g
    ∙ again b m ms (cut_first 10 bs) (cut_rest 10 bs) (cc) (cc)
  where
    again : (b : Body) (m : List ℕ) (ms : List (List ℕ)) (m' : List ℕ) (ms' : List (List ℕ)) → m ≡ m' → ms ≡ ms'
        → by_body b
        (λ w. and_then (or_placed (inserted_last p w) (λ why. bundle_fault line why (wire_field w why))) (λ q. read_body (line + 1) q m ms))
        (λ n. ended line p n m ms)
        ≡ by_body b
        (λ w. and_then (or_placed (inserted_last p w) (λ why. bundle_fault line why (wire_field w why))) (λ q. read_body (line + 1) q m' ms'))
        (λ n. ended line p n m' ms')
    again b m ms m' ms' x y =
        ap (λ (z : List ℕ). by_body b
        (λ w. and_then (or_placed (inserted_last p w) (λ why. bundle_fault line why (wire_field w why))) (λ q. read_body (line + 1) q z ms))
        (λ n. ended line p n z ms)) x
        ∙ ap (λ (z : List (List ℕ)). by_body b
        (λ w. and_then (or_placed (inserted_last p w) (λ why. bundle_fault line why (wire_field w why))) (λ q. read_body (line + 1) q m' z))
        (λ n. ended line p n m' z)) y

-- nothing is left exactly where no byte is
pub left_none : (bs : List ℕ) → length bs ≡ 0 → nothing_left (cut_first 10 bs) (cut_rest 10 bs) ≡ true
left_none [] e = refl
left_none (c ∷ cs) e = absurd (omega arith)

left_some : (bs : List ℕ) → 0 < length bs → nothing_left (cut_first 10 bs) (cut_rest 10 bs) ≡ false
left_some [] h = absurd (omega arith)
left_some (c ∷ cs) h = by (eqb c 10)
  where
    by : (b : Bool) → nothing_left (cond b [] (c ∷ cut_first 10 cs)) (cond b (cut_first 10 cs ∷ cut_rest 10 cs) (cut_rest 10 cs)) ≡ false
    by true = refl
    by false = refl

-- the end of a sheet, with its right count
pub ended_more : (line : ℕ) (p : Plan) (n : ℕ) (bs : List ℕ) → n ≡ length p.wires → 0 < length bs
    → ended line p n (cut_first 10 bs) (cut_rest 10 bs) ≡ Err (word_fault (line + 1))
ended_more line p n bs e h =
    ap (λ b. refuse_if (not b) (count_fault line) (refuse_if (not (nothing_left (cut_first 10 bs) (cut_rest 10 bs))) (word_fault (line + 1)) (Ok p))) (eq-eqb n (length p.wires) e)
    ∙ ap (λ b. refuse_if (not b) (word_fault (line + 1)) (Ok p)) (left_some bs h)

-- one wire more
grown : (r : Reply) (p q : Plan) (place : Refusal → Fault) → Ok q ≡ or_placed (unless_refused r p) place → q ≡ p
grown (Ok u) p q place e = cc
grown (Err why) p q place e = absurd (let z : ◌≡◌ {A = ℕ} 0 1 = cc in omega arith)

pub one_more : (p q : Plan) (w : Wire) (place : Refusal → Fault) → Ok q ≡ or_placed (inserted_last p w) place → length q.wires ≡ length p.wires + 1
one_more p q w place e =
    ap (λ (z : Plan). length z.wires) (grown (edit_reply p (Insert (length p.wires) w)) (made p (Insert (length p.wires) w)) q place e)
    ∙ length-insert p.wires (length p.wires) w (omega arith)

-- a wire line that is accepted
pub wire_goes : (line line' : ℕ) (p q : Plan) (bs bs' : List ℕ) (w : Wire) → line' ≡ line → cut_rest 10 bs ≡ cut_at 10 bs'
    → Ok (AWire w) ≡ body_line line (line_count bs) (cut_first 10 bs)
    → Ok q ≡ or_placed (inserted_last p w) (λ why. bundle_fault line' why (wire_field w why))
    → read_body line p (cut_first 10 bs) (cut_rest 10 bs) ≡ read_body (line' + 1) q (cut_first 10 bs') (cut_rest 10 bs')
wire_goes line line' p q bs bs' w l e g t =
    line_goes line p (cut_first 10 bs) (cut_rest 10 bs) bs' (AWire w) e (sym g)
    ∙ ap (λ k. and_then (or_placed (inserted_last p w) (λ why. bundle_fault k why (wire_field w why))) (λ z. read_body (k + 1) z (cut_first 10 bs') (cut_rest 10 bs'))) (sym l)
    ∙ ap (λ (r : Result Plan Fault). and_then r (λ z. read_body (line' + 1) z (cut_first 10 bs') (cut_rest 10 bs'))) (sym t)

-- a wire line that is refused
pub wire_stops : (line line' : ℕ) (p : Plan) (f : Fault) (bs bs' : List ℕ) (w : Wire) → line' ≡ line → cut_rest 10 bs ≡ cut_at 10 bs'
    → Ok (AWire w) ≡ body_line line (line_count bs) (cut_first 10 bs)
    → Err f ≡ or_placed (inserted_last p w) (λ why. bundle_fault line' why (wire_field w why))
    → read_body line p (cut_first 10 bs) (cut_rest 10 bs) ≡ Err f
wire_stops line line' p f bs bs' w l e g t =
    line_goes line p (cut_first 10 bs) (cut_rest 10 bs) bs' (AWire w) e (sym g)
    ∙ ap (λ k. and_then (or_placed (inserted_last p w) (λ why. bundle_fault k why (wire_field w why))) (λ z. read_body (k + 1) z (cut_first 10 bs') (cut_rest 10 bs'))) (sym l)
    ∙ ap (λ (r : Result Plan Fault). and_then r (λ z. read_body (line' + 1) z (cut_first 10 bs') (cut_rest 10 bs'))) (sym t)

-- a sheet whose head is accepted is what its other lines say
pub sheet_goes : (bs bs' : List ℕ) (p : Plan) (r : Result Plan Fault) → Ok p ≡ head_line (line_count bs) (cut_first 10 bs) → cut_rest 10 bs ≡ cut_at 10 bs'
    → r ≡ read_body 2 p (cut_first 10 bs') (cut_rest 10 bs') → r ≡ read_sheet bs
sheet_goes bs bs' p r h s b =
    b ∙ sym (ap (λ (x : Result Plan Fault). and_then x (λ q. read_rest q (cut_rest 10 bs))) (sym h) ∙ ap (read_rest p) s)
