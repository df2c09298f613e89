-- The lines after a head, read onto a drawing. Assumes nothing.
use Rattle.std.proofs.Common.{◌≡◌, ℕ, ◌+◌, ◌^◌, ◌<◌, ◌≤◌, true, false, List, [], ◌∷◌, ◌++◌, length, drop, Ok, sym, refl, ap, ◌∙◌, subst, append_assoc, arith}
use Rattle.std.specs.List.{insert, flat_map}
use Rattle.std.proofs.lemmas.List.{append-nil, drop_all, length-append, take_all}
use Rattle.std.proofs.lemmas.Bool.{and_parts, eqb-true, eq-eqb, le-ltb, lt-leb, not-false, not-true, true≢false}
use Rattle.drawing.specs.declared.words.Wire.{Wire}
use Rattle.drawing.specs.declared.words.Edit.TheVariants.{Insert}
use Rattle.drawing.specs.Edits.{made}
use Rattle.drawing.specs.Lists.{all}
use Rattle.drawing.specs.Plans.{Plan, Sound, over_limit, within_limits, too_narrow}
use Rattle.drawing.proofs.Fits.{fewer_fit}
use Rattle.drawing.proofs.Lists.{all_append}
use Rattle.text.specs.Cuts.{cut_first, cut_rest, cut_at, led_by, join_by}
use Rattle.sheets.specs.declared.reading.Body.{Body}
use Rattle.sheets.specs.declared.reading.Body.TheVariants.{AWire, TheEnd}
use Rattle.sheets.specs.Faults.{bundle_fault, wire_field}
use Rattle.sheets.specs.Reads.{and_then, or_placed, body_line, inserted_last, nothing_left, ended, by_body, read_body}
use Rattle.sheets.specs.Texts.{wire_fields, end_fields, wire_text, end_text}
use Rattle.sheets.proofs.BodyLines.{wire_lined, end_lined, wire_reads, end_reads, body_fields, line_writes, wire_again, end_again}
use Rattle.sheets.proofs.Cutting.{Lined}
use Rattle.sheets.proofs.Passed.{not_both, same_given, then_parts, test_parts, placed_part, reply_parts}

-- ---- a wire inserted at the end

-- a drawing with more wires at the end
abbrev pub extended : Plan → List Wire → Plan
extended p ws = record { grid = p.grid; channel = p.channel; wires = p.wires ++ ws }

-- a place at the end puts the new element behind all others
at_end : {X : Type 0} (xs : List X) (x : X) → insert xs (length xs) x ≡ xs ++ x ∷ []
at_end xs x =
    let le : length xs ≤ length xs = omega arith in
    ap (λ z. z ++ x ∷ drop (length xs) xs) (take_all (length xs) xs le) ∙ ap (λ z. xs ++ x ∷ z) (drop_all (length xs) xs le)

-- an insertion at the end gives a drawing with one wire more
made_last : (p : Plan) (w : Wire) → made p (Insert (length p.wires) w) ≡ extended p (w ∷ [])
made_last p w = ap (λ (z : List Wire). record { grid = p.grid; channel = p.channel; wires = z }) (at_end p.wires w)

-- a wire within its limits, where one more fits
last_reads : (p : Plan) (w : Wire) → over_limit w ≡ false → length p.wires < 24 → too_narrow p.grid p.channel (length p.wires + 1) ≡ false
    → inserted_last p w ≡ Ok (extended p (w ∷ []))
last_reads p w limit few fit =
    let at = le-ltb (length p.wires) (length p.wires) (omega arith) in
    let room = lt-leb 24 (length p.wires) few in
    rw (at, limit, room, fit) (ap Ok (made_last p w))

-- what an accepted insertion gives
last_writes : (p : Plan) (w : Wire) (q : Plan) → inserted_last p w ≡ Ok q → q ≡ extended p (w ∷ [])
last_writes p w q e = sym (reply_parts _ _ _ e).1 ∙ made_last p w

-- no more wires
extended_none : (p : Plan) → extended p [] ≡ p
extended_none p = ap (λ (z : List Wire). record { grid = p.grid; channel = p.channel; wires = z }) (append-nil p.wires)

-- more wires and then more
extended_more : (p : Plan) (ws us : List Wire) → extended (extended p ws) us ≡ extended p (ws ++ us)
extended_more p ws us = ap (λ (z : List Wire). record { grid = p.grid; channel = p.channel; wires = z }) (append_assoc p.wires ws us)

-- ---- written lines are read

-- a wire line is followed by the lines after it, onto the drawing with the wire
wire_step : (line : ℕ) (p : Plan) (l m : List ℕ) (ms : List (List ℕ)) (w : Wire) (q : Plan)
    → body_line line (length (cut_at 44 l)) l ≡ Ok (AWire w) → inserted_last p w ≡ Ok q
    → read_body line p l (m ∷ ms) ≡ read_body (line + 1) q m ms
wire_step line p l m ms w q e f = rw (e, f)

-- an end line with the right count gives the drawing
end_step : (line : ℕ) (p : Plan) (l : List ℕ) (n : ℕ) → body_line line (length (cut_at 44 l)) l ≡ Ok (TheEnd n) → n ≡ length p.wires
    → read_body line p l ([] ∷ []) ≡ Ok p
end_step line p l n e h = let c = eq-eqb n (length p.wires) h in rw (e, c)

-- the lines of some wires and the end, read onto the wires before them
pub body_reads : (line : ℕ) (p : Plan) (ws : List Wire) (n : ℕ) → Sound (extended p ws) → length (p.wires ++ ws) ≡ n
    → read_body line p (cut_first 10 (flat_map wire_text ws ++ end_text n)) (cut_rest 10 (flat_map wire_text ws ++ end_text n)) ≡ Ok (extended p ws)
body_reads line p [] n s h =
    let l = cut_first 10 (end_text n) in
    let same = extended_none p in
    let few = s.few in
    let len = ap (λ (z : Plan). length z.wires) same in
    let small : n < 10 ^ 8 = omega arith in
    let c = subst (λ (z : List ℕ). Lined z (end_fields n) []) (append-nil (end_text n)) (end_lined n [] small) in
    ap (λ (ms : List (List ℕ)). read_body line p l ms) c.rest
    ∙ (end_step line p l n (end_reads line l n c.first small) (omega arith) ∙ ap Ok (sym same))
body_reads line p (w ∷ ws) n s h =
    let t = flat_map wire_text ws ++ end_text n in
    let l = cut_first 10 (wire_text w ++ t) in
    let q = extended p (w ∷ []) in
    let e : flat_map wire_text (w ∷ ws) ++ end_text n ≡ wire_text w ++ t = append_assoc (wire_text w) (flat_map wire_text ws) (end_text n) in
    let more : extended q ws ≡ extended p (w ∷ ws) = extended_more p (w ∷ []) ws in
    let both = and_parts (all within_limits p.wires) (all within_limits (w ∷ ws)) (sym (all_append within_limits p.wires (w ∷ ws)) ∙ s.limited) in
    let limit : over_limit w ≡ false = not-true (over_limit w) (and_parts (within_limits w) (all within_limits ws) both.1).0 in
    let len = length-append p.wires (w ∷ ws) in
    let few = s.few in
    let room : length p.wires < 24 = omega arith in
    let fit = fewer_fit p.grid p.channel (length p.wires + 1) (length (p.wires ++ w ∷ ws)) (omega arith) s.fitting in
    let c = wire_lined w t limit in
    let rest = body_reads (line + 1) q ws n (subst Sound (sym more) s) (ap (λ (z : Plan). length z.wires) more ∙ h) in
    ap (λ (z : List ℕ). read_body line p (cut_first 10 z) (cut_rest 10 z)) e
    ∙ (ap (λ (ms : List (List ℕ)). read_body line p l ms) c.rest
    ∙ (wire_step line p l (cut_first 10 t) (cut_rest 10 t) w q (wire_reads line l w c.first limit) (last_reads p w limit room fit)
    ∙ (rest ∙ ap Ok more)))

-- ---- accepted lines are what is written

-- a drawing that was read onto another: the wires that it has more, whose lines and end line are the text
pub record Written (p q : Plan) (text : List ℕ) : Type 0 where
  pub more : List Wire
  pub shown : q ≡ extended p more
  pub spelled : flat_map wire_text more ++ end_text (length q.wires) ≡ text

-- a wire line before such a text
wire_written : (p : Plan) (w : Wire) (q : Plan) (l text : List ℕ) → wire_fields w ≡ cut_at 44 l → Written (extended p (w ∷ [])) q text
    → Written p q (l ++ 10 ∷ text)
wire_written p w q l text f r = record {
  more = w ∷ r.more;
  shown = r.shown ∙ extended_more p (w ∷ []) r.more;
  spelled =
      append_assoc (wire_text w) (flat_map wire_text r.more) (end_text (length q.wires))
      ∙ (ap (λ z. wire_text w ++ z) r.spelled ∙ (ap (λ z. z ++ text) (wire_again w l f) ∙ append_assoc l (10 ∷ []) text));
}

-- where nothing is left there is no byte
left_empty : (m : List ℕ) (ms : List (List ℕ)) → nothing_left m ms ≡ true → [] ≡ m ++ led_by 10 ms
left_empty [] [] e = refl
left_empty [] (m ∷ ms) e = absurd (true≢false (sym e))
left_empty (c ∷ cs) ms e = absurd (true≢false (sym e))

-- an accepted end line
end_written : (line : ℕ) (p : Plan) (n : ℕ) (q : Plan) (l m : List ℕ) (ms : List (List ℕ)) → end_fields n ≡ cut_at 44 l → ended line p n m ms ≡ Ok q
    → Written p q (join_by 10 (l ∷ m ∷ ms))
end_written line p n q l m ms f e =
    let count = test_parts _ _ _ _ e in
    let left = test_parts _ _ _ _ count.1 in
    let same = same_given p q left.1 in
    let number = eqb-true n (length p.wires) (not-false _ count.0) in
    let none = left_empty m ms (not-false _ left.0) in
    record {
      more = [];
      shown = sym same ∙ sym (extended_none p);
      spelled =
          ap (λ (z : Plan). end_text (length z.wires)) (sym same)
          ∙ (ap end_text (sym number) ∙ (end_again n l f ∙ ap (λ z. l ++ 10 ∷ z) none));
    }

-- accepted lines after the head are the lines of the wires that they add, and the end
pub body_writes : (ms : List (List ℕ)) (line : ℕ) (p : Plan) (l : List ℕ) (q : Plan) → read_body line p l ms ≡ Ok q → Written p q (join_by 10 (l ∷ ms))
body_writes [] line p l q e = absurd (not_both _ _ (then_parts (body_line line 0 l) _ _ e).2)
body_writes (m ∷ ms) line p l q e =
    let b = then_parts (body_line line (length (cut_at 44 l)) l) _ _ e in
    by_line (body_writes ms) b.0 (line_writes line l b.0 b.1) b.2
  where
    by_line : ((line : ℕ) (p : Plan) (l : List ℕ) (q : Plan) → read_body line p l ms ≡ Ok q → Written p q (join_by 10 (l ∷ ms)))
        → (b : Body) → body_fields b ≡ cut_at 44 l
        → by_body b
        (λ w. and_then (or_placed (inserted_last p w) (λ why. bundle_fault line why (wire_field w why))) (λ z. read_body (line + 1) z m ms))
        (λ n. ended line p n m ms) ≡ Ok q
        → Written p q (join_by 10 (l ∷ m ∷ ms))
    by_line again (AWire w) f r =
        let placed = then_parts (or_placed (inserted_last p w) (λ why. bundle_fault line why (wire_field w why))) _ _ r in
        let last = last_writes p w placed.0 (placed_part _ _ _ placed.1) in
        wire_written p w q l (join_by 10 (m ∷ ms)) f (subst (λ (z : Plan). Written z q (join_by 10 (m ∷ ms))) last (again (line + 1) placed.0 m q placed.2))
    by_line again (TheEnd n) f r = end_written line p n q l m ms f r
