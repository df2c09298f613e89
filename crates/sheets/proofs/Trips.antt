-- A written sheet is read as its drawing, an accepted sheet is what its drawing writes, and how long a sheet can be. Assumes nothing.
use Rattle.std.proofs.Common.{◌≡◌, ℕ, ◌≤◌, List, [], ◌∷◌, ◌++◌, length, Ok, Err, Result, sym, refl, ap, ◌∙◌, append_assoc, arith}
use Rattle.std.specs.List.{flat_map}
use Rattle.std.proofs.lemmas.List.{length-append}
use Rattle.drawing.specs.declared.drawings.Drawing.{Drawing}
use Rattle.drawing.specs.Shown.{plan_of, planned}
use Rattle.drawing.specs.declared.words.Wire.{Wire}
use Rattle.drawing.specs.Edits.{bare}
use Rattle.drawing.specs.Plans.{Plan, Sound}
use Rattle.drawing.proofs.Fits.{fewer_fit}
use Rattle.text.specs.Cuts.{cut_first, cut_rest, cut_at, join_by}
use Rattle.text.proofs.Cuts.{join_cut}
use Rattle.sheets.specs.declared.faults.Fault.{Fault}
use Rattle.sheets.specs.Reads.{and_then, head_line, read_rest, read_lines, read_sheet}
use Rattle.sheets.specs.Texts.{head_text, wire_text, end_text, sheet_text}
use Rattle.sheets.specs.Trips.{ReadsBack, Exactly}
use Rattle.sheets.proofs.Bodies.{body_reads, body_writes}
use Rattle.sheets.proofs.Heads.{head_lined, head_reads, head_writes, head_again}
use Rattle.sheets.proofs.Lengths.{head_longest, wires_longest, end_longest}
use Rattle.sheets.proofs.Passed.{not_both, then_parts}

-- a written sheet is read as its drawing
pub reads_back : (p : Plan) → Sound p → ReadsBack p
reads_back p s =
    let t = flat_map wire_text p.wires ++ end_text (length p.wires) in
    let l = cut_first 10 (head_text p.grid p.channel ++ t) in
    let c = head_lined p.grid p.channel t s.channelled in
    let fit = fewer_fit p.grid p.channel 0 (length p.wires) (omega arith) s.fitting in
    let head = head_reads l p.grid p.channel c.first s.gridded s.channelled fit in
    ap (read_lines l) c.rest
    ∙ (ap (λ (r : Result Plan Fault). and_then r (λ q. read_rest q (cut_at 10 t))) head
    ∙ body_reads 2 (bare p.grid p.channel) p.wires (length p.wires) s refl)

-- accepted lines are those of the drawing
lines_write : (l : List ℕ) (ms : List (List ℕ)) (p : Plan) → read_lines l ms ≡ Ok p → sheet_text p ≡ join_by 10 (l ∷ ms)
lines_write l [] p e = absurd (not_both _ _ (then_parts (head_line 0 l) _ _ e).2)
lines_write l (m ∷ ms) p e =
    let r = then_parts (head_line (length (cut_at 44 l)) l) _ _ e in
    let head = head_writes l r.0 r.1 in
    let body = body_writes ms 2 r.0 m p r.2 in
    let shown = ap (λ (z : Plan). head_text z.grid z.channel) body.shown in
    let first : head_text p.grid p.channel ≡ l ++ 10 ∷ [] = shown ∙ head_again r.0.grid r.0.channel l head.0 in
    let wires : p.wires ≡ body.more = ap (λ (z : Plan). z.wires) body.shown ∙ ap (λ (z : List Wire). z ++ body.more) head.1 in
    ap (λ z. z ++ (flat_map wire_text p.wires ++ end_text (length p.wires))) first
    ∙ (ap (λ (z : List Wire). (l ++ 10 ∷ []) ++ (flat_map wire_text z ++ end_text (length p.wires))) wires
    ∙ (ap (λ z. (l ++ 10 ∷ []) ++ z) body.spelled ∙ append_assoc l (10 ∷ []) (join_by 10 (m ∷ ms))))

-- an accepted sheet is what its drawing writes, byte for byte
pub writes_back : (bytes : List ℕ) (p : Plan) → read_sheet bytes ≡ Ok p → sheet_text p ≡ bytes
writes_back bytes p e = lines_write (cut_first 10 bytes) (cut_rest 10 bytes) p e ∙ join_cut 10 bytes

-- a sheet has at most 1207 bytes
pub longest : (p : Plan) → Sound p → length (sheet_text p) ≤ 1207
longest p s =
    let few = s.few in
    let w = wires_longest p.wires s.limited in
    let e = end_longest (length p.wires) few in
    let h = head_longest p.grid p.channel s.channelled in
    omega (
      arith,
      length-append (head_text p.grid p.channel) (flat_map wire_text p.wires ++ end_text (length p.wires)),
      length-append (flat_map wire_text p.wires) (end_text (length p.wires)),
    )

-- what reading answers tells the sheets of drawings from all other bytes
pub exactly : (r : Result Drawing Fault) (bytes : List ℕ) → planned r ≡ read_sheet bytes → Exactly r bytes
exactly (Ok d) bytes e = writes_back bytes (plan_of d) (sym e)
exactly (Err f) bytes e = λ p s w. not_both f p (e ∙ ap read_sheet (sym w) ∙ reads_back p s)
