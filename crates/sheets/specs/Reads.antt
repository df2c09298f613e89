-- What a whole sheet says: a drawing, or its first fault. Assumes nothing.
use Rattle.std.specs.Prelude.{ℕ, ◌+◌, ◌-◌, Bool, true, false, cond, not, List, [], ◌∷◌, length, Some, None, Ok, Err, codes, Option, Result, ◌==◌, slice_index_or}
use Rattle.std.specs.Str.{bytes_eq}
use Rattle.drawing.specs.declared.refusals.Refusal.{Refusal}
use Rattle.drawing.specs.declared.words.Wire.{Wire}
use Rattle.drawing.specs.declared.words.Edit.TheVariants.{Insert}
use Rattle.drawing.specs.Plans.{Plan}
use Rattle.drawing.specs.Edits.{opened, edit_reply, made, unless_refused}
use Rattle.text.specs.Cuts.{cut_first, cut_rest, cut_at, closed_count}
use Rattle.text.specs.Numbers.{number_in}
use Rattle.text.specs.Runs.{run_in}
use Rattle.sheets.specs.declared.faults.Fault.{Fault}
use Rattle.sheets.specs.declared.reading.Body.{Body}
use Rattle.sheets.specs.declared.reading.Body.TheVariants.{AWire, TheEnd}
use Rattle.sheets.specs.Faults.{field_fault, line_fault, word_fault, count_fault, bundle_fault, head_field, wire_field}

-- ---- handing a fault up
-- go on with what was read, or hand the fault up
abbrev pub and_then : {X Y : Type 0} → Result X Fault → (X → Result Y Fault) → Result Y Fault
and_then (Ok x) go = go x
and_then (Err f) go = Err f

-- refuse, or go on
abbrev pub refuse_if : {X : Type 0} → Bool → Fault → Result X Fault → Result X Fault
refuse_if b f go = cond b (Err f) go

-- what is there, or a fault
abbrev pub or_fault : {X : Type 0} → Option X → Fault → Result X Fault
or_fault (Some x) f = Ok x
or_fault None f = Err f

-- a drawing's own refusal, with its place in the sheet
abbrev pub or_placed : {X : Type 0} → Result X Refusal → (Refusal → Fault) → Result X Fault
or_placed (Ok x) place = Ok x
or_placed (Err why) place = Err (place why)

-- ---- fields
-- the field of a line with this place, counted from 1
abbrev pub field_at : ℕ → List (List ℕ) → List ℕ
field_at place fields = slice_index_or fields (place - 1) []

-- a number or a run at a place
abbrev pub number_at : ℕ → ℕ → List (List ℕ) → Result ℕ Fault
number_at line place fields = or_fault (number_in (field_at place fields)) (field_fault line place)

abbrev pub run_at : ℕ → ℕ → List (List ℕ) → Result ℕ Fault
run_at line place fields = or_fault (run_in (field_at place fields)) (field_fault line place)

-- ---- lines
-- The first field has to be a word that is due; then the line has to have its count of fields and its line end (a line that lacks its end
-- counts as one of no fields); then each field is read, from left to right.

-- the head, with the drawing that it opens
abbrev pub head_from : List (List ℕ) → Result Plan Fault
head_from fields =
    and_then (number_at 1 2 fields) (λ channel.
    and_then (run_at 1 3 fields) (λ widths.
    and_then (run_at 1 4 fields) (λ spaces.
    or_placed (opened (record { widths = widths; spaces = spaces }) channel) (λ why. bundle_fault 1 why (head_field why)))))

abbrev pub head_line : ℕ → List ℕ → Result Plan Fault
head_line count l =
    refuse_if (not (bytes_eq (cut_first 44 l) (codes "sheet"))) (word_fault 1)
    (refuse_if (not (count == 4)) (line_fault 1)
    (head_from (cut_at 44 l)))

-- the eight numbers of a wire line
abbrev pub wire_from : ℕ → List (List ℕ) → Result Wire Fault
wire_from line fields =
    and_then (number_at line 2 fields) (λ a.
    and_then (number_at line 3 fields) (λ b.
    and_then (number_at line 4 fields) (λ g.
    and_then (number_at line 5 fields) (λ d.
    and_then (number_at line 6 fields) (λ e.
    and_then (number_at line 7 fields) (λ k.
    and_then (number_at line 8 fields) (λ h.
    and_then (number_at line 9 fields) (λ t.
    Ok (record { a = a; b = b; g = g; d = d; e = e; k = k; h = h; t = t })))))))))

-- a line after the head: a wire, or the end with its count
abbrev pub body_line : ℕ → ℕ → List ℕ → Result Body Fault
body_line line count l =
    cond (bytes_eq (cut_first 44 l) (codes "wire"))
    (refuse_if (not (count == 9)) (line_fault line) (and_then (wire_from line (cut_at 44 l)) (λ w. Ok (AWire w))))
    (cond (bytes_eq (cut_first 44 l) (codes "end"))
    (refuse_if (not (count == 2)) (line_fault line) (and_then (number_at line 2 (cut_at 44 l)) (λ n. Ok (TheEnd n))))
    (Err (word_fault line)))

-- ---- the whole sheet
-- a wire inserted at the end of a drawing
abbrev pub inserted_last : Plan → Wire → Result Plan Refusal
inserted_last p w = unless_refused (edit_reply p (Insert (length p.wires) w)) (made p (Insert (length p.wires) w))

-- nothing stands after the end line: m is the part after its line end, and ms are the parts after that
abbrev pub nothing_left : List ℕ → List (List ℕ) → Bool
nothing_left [] [] = true
nothing_left [] (m ∷ ms) = false
nothing_left (c ∷ cs) ms = false

-- the end line gives the drawing, where its count is right and nothing follows it
abbrev pub ended : ℕ → Plan → ℕ → List ℕ → List (List ℕ) → Result Plan Fault
ended line p n m ms =
    refuse_if (not (n == length p.wires)) (count_fault line)
    (refuse_if (not (nothing_left m ms)) (word_fault (line + 1)) (Ok p))

-- what follows a line: after a wire its insertion and the lines after it, after the end nothing
abbrev pub by_body : Body → (Wire → Result Plan Fault) → (ℕ → Result Plan Fault) → Result Plan Fault
by_body (AWire w) on-wire on-end = on-wire w
by_body (TheEnd n) on-wire on-end = on-end n

-- the lines from the one numbered `line` on, onto a drawing: l is that line, and ms are the parts after it; the very last part is what stands
-- after the last line end, so that l has its line end where another part follows; where none does, l is refused
abbrev pub read_body : ℕ → Plan → List ℕ → List (List ℕ) → Result Plan Fault
read_body line p l [] = and_then (body_line line 0 l) (λ b. Err (line_fault line))
read_body line p l (m ∷ ms) =
    and_then (body_line line (length (cut_at 44 l)) l) (λ b.
    by_body b
    (λ w. and_then (or_placed (inserted_last p w) (λ why. bundle_fault line why (wire_field w why))) (λ q. read_body (line + 1) q m ms))
    (λ n. ended line p n m ms))

-- the lines after the head: ms are the parts after it (a head that lacks its line end is refused before)
abbrev pub read_rest : Plan → List (List ℕ) → Result Plan Fault
read_rest p [] = Err (line_fault 1)
read_rest p (m ∷ ms) = read_body 2 p m ms

-- a sheet: its head, and the lines after it
abbrev pub read_lines : List ℕ → List (List ℕ) → Result Plan Fault
read_lines l ms = and_then (head_line (closed_count ms (length (cut_at 44 l))) l) (λ p. read_rest p ms)

abbrev pub read_sheet : List ℕ → Result Plan Fault
read_sheet bytes = read_lines (cut_first 10 bytes) (cut_rest 10 bytes)
