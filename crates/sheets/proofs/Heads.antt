-- A head line and the drawing that it opens. Assumes nothing.
use Rattle.std.proofs.Common.{◌≡◌, ℕ, ◌<◌, ◌≤◌, false, not, eqb, List, [], ◌∷◌, ◌++◌, length, get_or, Some, Ok, codes, decimal, Result, sym, ap, ◌∙◌, arith}
use Rattle.std.specs.List.{AllByRecursion as All}
use Rattle.std.specs.Str.{bytes_eq}
use Rattle.std.proofs.lemmas.Slice.Eq.{bytes_eq-Decides}
use Rattle.std.proofs.lemmas.Bool.{eqb-true, not-false, or_parts}
use Rattle.std.proofs.lemmas.Bool.Decides.{nat_tests}
use Rattle.drawing.specs.declared.words.Grid.{Grid}
use Rattle.drawing.specs.Edits.{bare, opened}
use Rattle.drawing.specs.Plans.{Plan, bad_byte, bad_grid, bad_channel, too_narrow}
use Rattle.text.specs.Cuts.{cut_first, cut_at}
use Rattle.text.specs.Numbers.{number_in}
use Rattle.text.specs.Runs.{run_in, run_text}
use Rattle.text.proofs.Cuts.{Without, without_decimal}
use Rattle.text.proofs.Numbers.{number_write, number_read}
use Rattle.text.proofs.Runs.{run_write, run_read, without_run}
use Rattle.sheets.specs.declared.faults.Fault.{Fault}
use Rattle.sheets.specs.Faults.{line_fault, word_fault}
use Rattle.sheets.specs.Reads.{refuse_if, head_from, head_line}
use Rattle.sheets.specs.Texts.{head_fields, head_text}
use Rattle.sheets.proofs.Cutting.{Plain, Lined, lined, line_again}
use Rattle.sheets.proofs.Passed.{then_parts, test_parts, fault_part, placed_part, reply_parts}
use Rattle.sheets.proofs.Slots.{slots, slots_all}

-- a byte that is a set of steps, written as a run, is read again
byte_read : (byte : ℕ) → bad_byte byte ≡ false → run_in (run_text byte) ≡ Some byte
byte_read byte fair = run_write byte (grind (arith, nat_tests)) (grind (arith, nat_tests))

-- a channel, written, is read again
channel_read : (channel : ℕ) → bad_channel channel ≡ false → number_in (decimal channel) ≡ Some channel
channel_read channel fair = number_write channel (grind (arith, nat_tests))

-- no field of a head holds a byte that parts fields or lines
head_plain : (grid : Grid) (channel : ℕ) → bad_channel channel ≡ false → Plain (head_fields grid channel)
head_plain grid channel fair =
    record { commas = without 44 (omega arith); ends = without 10 (omega arith) }
  where
    without : (s : ℕ) → s < 48 → All (Without s) (head_fields grid channel)
    without s h =
        let few : channel ≤ 300 = grind (arith, nat_tests) in
        (omega arith, (without_decimal s channel h (omega arith), (without_run s grid.widths (omega arith), (without_run s grid.spaces (omega arith), tt))))

-- a written head is cut into its fields again
pub head_lined : (grid : Grid) (channel : ℕ) (bs : List ℕ) → bad_channel channel ≡ false → Lined (head_text grid channel ++ bs) (head_fields grid channel) bs
unfolding head_text
head_lined grid channel bs fair =
    lined (codes "sheet") (decimal channel ∷ run_text grid.widths ∷ run_text grid.spaces ∷ []) bs (head_plain grid channel fair)

-- a head line by its fields
abbrev head_by : List (List ℕ) → Result Plan Fault
head_by fields =
    refuse_if (not (bytes_eq (get_or fields 0 []) (codes "sheet"))) (word_fault 1)
    (refuse_if (not (eqb (length fields) 4)) (line_fault 1)
    (head_from fields))

-- opening, where nothing refuses it
opened_bare : (grid : Grid) (channel : ℕ) → bad_grid grid ≡ false → bad_channel channel ≡ false → too_narrow grid channel 0 ≡ false
    → opened grid channel ≡ Ok (bare grid channel)
opened_bare grid channel g c n = rw (g, c, n)

-- the fields of a head that no test of a drawing refuses open it
pub head_reads : (l : List ℕ) (grid : Grid) (channel : ℕ) → cut_at 44 l ≡ head_fields grid channel → bad_grid grid ≡ false → bad_channel channel ≡ false
    → too_narrow grid channel 0 ≡ false → head_line (length (cut_at 44 l)) l ≡ Ok (bare grid channel)
head_reads l grid channel e g c n =
    let bytes = or_parts (bad_byte grid.widths) (bad_byte grid.spaces) g in
    let w = byte_read grid.widths bytes.0 in
    let s = byte_read grid.spaces bytes.1 in
    let k = channel_read channel c in
    let o = opened_bare grid channel g c n in
    ap head_by e ∙ rw (k, w, s, o)

-- an accepted head has the fields of the drawing that it opens, which has no wires
pub head_writes : (l : List ℕ) (p : Plan) → head_line (length (cut_at 44 l)) l ≡ Ok p
    → (head_fields p.grid p.channel ≡ cut_at 44 l) × (p.wires ≡ [])
head_writes l p e =
    let fields = cut_at 44 l in
    let word = test_parts _ _ _ _ e in
    let count = test_parts _ _ _ _ word.1 in
    let channel = then_parts _ _ _ count.1 in
    let widths = then_parts _ _ _ channel.2 in
    let spaces = then_parts _ _ _ widths.2 in
    let opens = reply_parts _ _ _ (placed_part _ _ _ spaces.2) in
    let f0 : get_or fields 0 [] ≡ codes "sheet" = (bytes_eq-Decides (cut_first 44 l) (codes "sheet")).0 (not-false _ word.0) in
    let f1 : decimal channel.0 ≡ get_or fields 1 [] = number_read _ _ (fault_part _ _ _ channel.1) in
    let f2 : run_text widths.0 ≡ get_or fields 2 [] = run_read _ _ (fault_part _ _ _ widths.1) in
    let f3 : run_text spaces.0 ≡ get_or fields 3 [] = run_read _ _ (fault_part _ _ _ spaces.1) in
    let all : slots [] 4 0 fields ≡ fields = slots_all [] 4 fields (eqb-true _ _ (not-false _ count.0)) in
    (ap (λ (q : Plan). head_fields q.grid q.channel) (sym opens.1) ∙ (cc), ap (λ (q : Plan). q.wires) (sym opens.1))

-- the head of a drawing whose fields were cut from a line is that line
pub head_again : (grid : Grid) (channel : ℕ) (l : List ℕ) → head_fields grid channel ≡ cut_at 44 l → head_text grid channel ≡ l ++ 10 ∷ []
unfolding head_text
head_again grid channel l e = line_again (head_fields grid channel) l e
