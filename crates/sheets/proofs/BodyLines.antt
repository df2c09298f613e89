-- A line after the head: a wire, or the end. Assumes nothing.
use Rattle.std.proofs.Common.{◌≡◌, ℕ, ◌-◌, ◌^◌, ◌<◌, false, cond, not, eqb, List, [], ◌∷◌, ◌++◌, map, length, get_or, Some, Ok, Err, codes, decimal, Result, sym, ap, ◌∙◌, arith}
use Rattle.std.specs.List.{AllByRecursion as All}
use Rattle.std.specs.Str.{bytes_eq}
use Rattle.std.proofs.lemmas.Slice.Eq.{bytes_eq-Decides}
use Rattle.std.proofs.lemmas.Bool.{cond_both, eqb-true, not-false}
use Rattle.drawing.specs.declared.words.Wire.{Wire}
use Rattle.drawing.specs.Plans.{over_limit}
use Rattle.text.specs.Cuts.{cut_first, cut_at}
use Rattle.text.specs.Numbers.{number_in}
use Rattle.text.proofs.Cuts.{Without, without_decimal}
use Rattle.text.proofs.Numbers.{number_write, number_read}
use Rattle.sheets.specs.declared.faults.Fault.{Fault}
use Rattle.sheets.specs.declared.reading.Body.{Body}
use Rattle.sheets.specs.declared.reading.Body.TheVariants.{AWire, TheEnd}
use Rattle.sheets.specs.Faults.{line_fault, word_fault}
use Rattle.sheets.specs.Reads.{and_then, refuse_if, number_at, wire_from, body_line}
use Rattle.sheets.specs.Texts.{numbers, wire_fields, end_fields, wire_text, end_text}
use Rattle.sheets.proofs.Cutting.{Lined, lined, line_again}
use Rattle.sheets.proofs.Limited.{numbers_below}
use Rattle.sheets.proofs.Passed.{not_both, same_given, then_parts, test_parts, fault_part}
use Rattle.sheets.proofs.Slots.{slots, slots_all}

-- ---- written lines, cut again

-- decimals hold no byte below 48
without_decimals : (s : ℕ) (ns : List ℕ) → s < 48 → All (λ n. n < 10 ^ 8) ns → All (Without s) (map decimal ns)
without_decimals s [] h a = tt
without_decimals s (n ∷ ns) h a = (without_decimal s n h (omega arith), without_decimals s ns h a.1)

-- a written wire line is cut into its fields again
pub wire_lined : (w : Wire) (bs : List ℕ) → over_limit w ≡ false → Lined (wire_text w ++ bs) (wire_fields w) bs
unfolding wire_text
wire_lined w bs fair = lined (codes "wire") (map decimal (numbers w)) bs (record { commas = without 44 (omega arith); ends = without 10 (omega arith) })
  where
    without : (s : ℕ) → s < 48 → All (Without s) (wire_fields w)
    without s h = (omega arith, without_decimals s (numbers w) h (numbers_below w fair))

-- a written end line is cut into its fields again
pub end_lined : (n : ℕ) (bs : List ℕ) → n < 10 ^ 8 → Lined (end_text n ++ bs) (end_fields n) bs
unfolding end_text
end_lined n bs few = lined (codes "end") (decimal n ∷ []) bs (record { commas = without 44 (omega arith); ends = without 10 (omega arith) })
  where
    without : (s : ℕ) → s < 48 → All (Without s) (end_fields n)
    without s h = (omega arith, without_decimals s (n ∷ []) h (few, tt))

-- ---- a written line is read

-- a line after the head by its fields
abbrev body_by : ℕ → List (List ℕ) → Result Body Fault
body_by line fields =
    cond (bytes_eq (get_or fields 0 []) (codes "wire"))
    (refuse_if (not (eqb (length fields) 9)) (line_fault line) (and_then (wire_from line fields) (λ w. Ok (AWire w))))
    (cond (bytes_eq (get_or fields 0 []) (codes "end"))
    (refuse_if (not (eqb (length fields) 2)) (line_fault line) (and_then (number_at line 2 fields) (λ n. Ok (TheEnd n))))
    (Err (word_fault line)))

-- numbers of at most eight digits, written, are read again
numbers_read : (ns : List ℕ) → All (λ n. n < 10 ^ 8) ns → All (λ n. number_in (decimal n) ≡ Some n) ns
numbers_read [] a = tt
numbers_read (n ∷ ns) a = (number_write n a.0, numbers_read ns a.1)

-- the fields of a wire within its limits are read as that wire
pub wire_reads : (line : ℕ) (l : List ℕ) (w : Wire) → cut_at 44 l ≡ wire_fields w → over_limit w ≡ false
    → body_line line (length (cut_at 44 l)) l ≡ Ok (AWire w)
wire_reads line l w e fair =
    let r = numbers_read (numbers w) (numbers_below w fair) in
    ap (body_by line) e
    ∙ rw (r.0, r.1.0, r.1.1.0, r.1.1.1.0, r.1.1.1.1.0, r.1.1.1.1.1.0, r.1.1.1.1.1.1.0, r.1.1.1.1.1.1.1.0)

-- the fields of an end line are read as its count
pub end_reads : (line : ℕ) (l : List ℕ) (n : ℕ) → cut_at 44 l ≡ end_fields n → n < 10 ^ 8
    → body_line line (length (cut_at 44 l)) l ≡ Ok (TheEnd n)
end_reads line l n e few = ap (body_by line) e ∙ rw (number_write n few)

-- ---- an accepted line is what is written

-- a number that was read, and what was made of it
number_then : {Y : Type 0} (line place : ℕ) (fields : List (List ℕ)) (go : ℕ → Result Y Fault) (y : Y) → and_then (number_at line place fields) go ≡ Ok y
    → (n : ℕ) × (decimal n ≡ get_or fields (place - 1) []) × (go n ≡ Ok y)
number_then line place fields go y e =
    let r = then_parts (number_at line place fields) go y e in
    (r.0, number_read _ _ (fault_part _ _ _ r.1), r.2)

-- nine fields that are read as a wire are its fields
wire_from_writes : (line : ℕ) (fields : List (List ℕ)) (w : Wire) → get_or fields 0 [] ≡ codes "wire" → length fields ≡ 9
    → wire_from line fields ≡ Ok w → wire_fields w ≡ fields
wire_from_writes line fields w word nine r =
    let a = number_then line 2 fields _ w r in
    let b = number_then line 3 fields _ w a.2 in
    let g = number_then line 4 fields _ w b.2 in
    let d = number_then line 5 fields _ w g.2 in
    let e = number_then line 6 fields _ w d.2 in
    let k = number_then line 7 fields _ w e.2 in
    let h = number_then line 8 fields _ w k.2 in
    let t = number_then line 9 fields _ w h.2 in
    ap wire_fields (sym (same_given _ _ t.2))
    ∙ nine_fields a.0 b.0 g.0 d.0 e.0 k.0 h.0 t.0 a.1 b.1 g.1 d.1 e.1 k.1 h.1 t.1
  where
    nine_fields : (a b g d e k h t : ℕ) → decimal a ≡ get_or fields 1 [] → decimal b ≡ get_or fields 2 [] → decimal g ≡ get_or fields 3 []
        → decimal d ≡ get_or fields 4 [] → decimal e ≡ get_or fields 5 [] → decimal k ≡ get_or fields 6 [] → decimal h ≡ get_or fields 7 []
        → decimal t ≡ get_or fields 8 []
        → codes "wire" ∷ decimal a ∷ decimal b ∷ decimal g ∷ decimal d ∷ decimal e ∷ decimal k ∷ decimal h ∷ decimal t ∷ [] ≡ fields
    nine_fields a b g d e k h t fa fb fg fd fe fk fh ft =
        let all : slots [] 9 0 fields ≡ fields = slots_all [] 9 fields nine in
        rw (fa, fb, fg, fd, fe, fk, fh, ft, sym word) all

-- the fields of a line after the head
abbrev pub body_fields : Body → List (List ℕ)
body_fields (AWire w) = wire_fields w
body_fields (TheEnd n) = end_fields n

-- a line whose word is `wire`
wire_writes : (line : ℕ) (fields : List (List ℕ)) (b : Body) → get_or fields 0 [] ≡ codes "wire"
    → refuse_if (not (eqb (length fields) 9)) (line_fault line) (and_then (wire_from line fields) (λ w. Ok (AWire w))) ≡ Ok b → body_fields b ≡ fields
wire_writes line fields b word e =
    let count = test_parts _ _ _ _ e in
    let w = then_parts (wire_from line fields) _ _ count.1 in
    ap body_fields (sym (same_given _ _ w.2))
    ∙ wire_from_writes line fields w.0 word (eqb-true (length fields) 9 (not-false _ count.0)) w.1

-- a line whose word is `end`
end_writes : (line : ℕ) (fields : List (List ℕ)) (b : Body) → get_or fields 0 [] ≡ codes "end"
    → refuse_if (not (eqb (length fields) 2)) (line_fault line) (and_then (number_at line 2 fields) (λ n. Ok (TheEnd n))) ≡ Ok b → body_fields b ≡ fields
end_writes line fields b word e =
    let count = test_parts _ _ _ _ e in
    let n = number_then line 2 fields _ _ count.1 in
    let f = n.1 in
    let all : slots [] 2 0 fields ≡ fields = slots_all [] 2 fields (eqb-true (length fields) 2 (not-false _ count.0)) in
    ap body_fields (sym (same_given _ _ n.2)) ∙ rw (f, sym word) all

-- an accepted line after the head has the fields of what it says
pub line_writes : (line : ℕ) (l : List ℕ) (b : Body) → body_line line (length (cut_at 44 l)) l ≡ Ok b → body_fields b ≡ cut_at 44 l
line_writes line l b e =
    cond_both (bytes_eq (cut_first 44 l) (codes "wire")) _ _ (λ r. r ≡ Ok b → body_fields b ≡ cut_at 44 l)
    (λ t. wire_writes line (cut_at 44 l) b ((bytes_eq-Decides (cut_first 44 l) (codes "wire")).0 t))
    (λ f. cond_both (bytes_eq (cut_first 44 l) (codes "end")) _ _ (λ r. r ≡ Ok b → body_fields b ≡ cut_at 44 l)
    (λ t. end_writes line (cut_at 44 l) b ((bytes_eq-Decides (cut_first 44 l) (codes "end")).0 t))
    (λ g z. absurd (not_both _ _ z)))
    e

-- a wire line whose fields were cut from a line is that line
pub wire_again : (w : Wire) (l : List ℕ) → wire_fields w ≡ cut_at 44 l → wire_text w ≡ l ++ 10 ∷ []
unfolding wire_text
wire_again w l e = line_again (wire_fields w) l e

-- an end line whose fields were cut from a line is that line
pub end_again : (n : ℕ) (l : List ℕ) → end_fields n ≡ cut_at 44 l → end_text n ≡ l ++ 10 ∷ []
unfolding end_text
end_again n l e = line_again (end_fields n) l e
