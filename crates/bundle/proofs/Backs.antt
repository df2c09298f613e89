-- Undo and redo of the plain history, there and back. Assumes nothing.
use Rattle.std.proofs.Common.{◌≡◌, ℕ, zero, suc, ◌+◌, ◌-◌, ◌<◌, ◌≤◌, Bool, false, eqb, List, [], ◌∷◌, ◌++◌, length, drop, Ok, Err, sym, refl, ap, ◌∙◌, arith}
use Rattle.std.proofs.lemmas.List.{drop-append-le, drop-drop, length_push}
use Rattle.std.proofs.lemmas.Bool.Decides.{nat_tests}
use Rattle.drawing.specs.declared.refusals.Refusal.{Refusal}
use Rattle.drawing.specs.declared.refusals.Refusal.TheVariants.{NothingToUndo, NothingToRedo}
use Rattle.drawing.specs.declared.words.Edit.{Edit}
use Rattle.drawing.specs.Plans.{Plan}
use Rattle.drawing.specs.Edits.{Reply, first_reason}
use Rattle.bundle.specs.declared.changes.Change.{Change}
use Rattle.bundle.specs.declared.changes.Change.TheVariants.{Undo, Redo}
use Rattle.bundle.specs.History.{History, history_plan, history_reply, history_after, moved, by_reply, all_but_last, last_alone, replayed}
use Rattle.bundle.specs.Stands.{shown_back}
use Rattle.bundle.proofs.Ends.{ended, but_last_push, last_push}

-- histories with the same four parts
pub same_history : (p q : Plan) (ss ts us vs : List Edit) (m n : ℕ) → p ≡ q → ss ≡ ts → us ≡ vs → m ≡ n
    → ◌≡◌ {A = History} (record { opened = p; standing = ss; undone = us; reach = m }) (record { opened = q; standing = ts; undone = vs; reach = n })
same_history p q ss ts us vs m n a b c d = cc

-- a number that is not 0
some_eqb : (n : ℕ) → 0 < n → eqb n 0 ≡ false
some_eqb n lt = grind (arith, nat_tests)

-- an undo is accepted where one is in reach
pub undo_accepted : (h : History) → 0 < h.reach → history_reply h Undo ≡ Ok tt
undo_accepted h lt = ap (λ (z : Bool). first_reason ((z, NothingToUndo) ∷ [])) (some_eqb h.reach lt)

-- a redo is accepted where an edit is undone
pub redo_accepted : (h : History) → 0 < length h.undone → history_reply h Redo ≡ Ok tt
redo_accepted h lt = ap (λ (z : Bool). first_reason ((z, NothingToRedo) ∷ [])) (some_eqb (length h.undone) lt)

-- an accepted change
pub after_accepted : (h : History) (c : Change) → history_reply h c ≡ Ok tt → history_after h c ≡ moved h c
after_accepted h c ok = ap (λ (r : Reply). by_reply r h (moved h c)) ok

-- a refused change
pub after_refused : (h : History) (c : Change) (why : Refusal) → history_reply h c ≡ Err why → history_after h c ≡ h
after_refused h c why nay = ap (λ (r : Reply). by_reply r h (moved h c)) nay

-- an undo in reach
pub after_undo : (h : History) → 0 < h.reach → history_after h Undo ≡ moved h Undo
after_undo h lt = after_accepted h Undo (undo_accepted h lt)

-- a redo of an undone edit
pub after_redo : (h : History) → 0 < length h.undone → history_after h Redo ≡ moved h Redo
after_redo h lt = after_accepted h Redo (redo_accepted h lt)

-- the redo after an undo is accepted
pub undone_some : (h : History) → 0 < length h.standing → length (moved h Undo).undone ≡ length h.undone + 1
undone_some h some =
    let end = ended h.standing some in
    ap (λ z. length (h.undone ++ z)) end.alone ∙ length_push h.undone end.back

-- a redo takes an undo back
pub redo_undo : (h : History) → 0 < h.reach → 0 < length h.standing → history_after (history_after h Undo) Redo ≡ h
redo_undo h lt some =
    let end = ended h.standing some in
    let y = end.back in
    let u : h.undone ++ last_alone h.standing ≡ h.undone ++ y ∷ [] = ap (λ z. h.undone ++ z) end.alone in
    let l = undone_some h some in
    let r : h.reach - 1 + 1 ≡ h.reach = omega arith in
    let s : all_but_last h.standing ++ last_alone (h.undone ++ last_alone h.standing) ≡ h.standing =
    ap (λ z. all_but_last h.standing ++ last_alone z) u ∙ ap (λ z. all_but_last h.standing ++ z) (last_push h.undone y) ∙ sym end.is in
    let v : all_but_last (h.undone ++ last_alone h.standing) ≡ h.undone = ap all_but_last u ∙ but_last_push h.undone y in
    ap (λ (z : History). history_after z Redo) (after_undo h lt)
    ∙ after_redo (moved h Undo) (omega arith)
    ∙ same_history _ _ _ _ _ _ _ _ refl s v r

-- an undo takes a redo back
pub undo_redo : (h : History) → 0 < length h.undone → history_after (history_after h Redo) Undo ≡ h
undo_redo h lt =
    let end = ended h.undone lt in
    let y = end.back in
    let s : h.standing ++ last_alone h.undone ≡ h.standing ++ y ∷ [] = ap (λ z. h.standing ++ z) end.alone in
    let up : 0 < h.reach + 1 = omega arith in
    let r : h.reach + 1 - 1 ≡ h.reach = omega arith in
    let t : all_but_last (h.standing ++ last_alone h.undone) ≡ h.standing = ap all_but_last s ∙ but_last_push h.standing y in
    let v : all_but_last h.undone ++ last_alone (h.standing ++ last_alone h.undone) ≡ h.undone =
    ap (λ z. all_but_last h.undone ++ last_alone z) s ∙ ap (λ z. all_but_last h.undone ++ z) (last_push h.standing y) ∙ sym end.is in
    ap (λ (z : History). history_after z Undo) (after_redo h lt)
    ∙ after_undo (moved h Redo) up
    ∙ same_history _ _ _ _ _ _ _ _ refl t v r

-- what undos show follows from the opened drawing and the standing edits
pub back_same : (n : ℕ) (g h : History) → g.opened ≡ h.opened → g.standing ≡ h.standing → n ≤ g.reach → n ≤ h.reach
    → shown_back g n ≡ shown_back h n
back_same zero g h o s lg lh = refl
back_same (suc n) g h o s lg lh =
    let ag : history_after g Undo ≡ moved g Undo = after_undo g (omega arith) in
    let ah : history_after h Undo ≡ moved h Undo = after_undo h (omega arith) in
    let i = back_same n (moved g Undo) (moved h Undo) o (ap all_but_last s) (omega arith) (omega arith) in
    ap (λ (z : History). shown_back z n ++ history_plan z ∷ []) ag
    ∙ ap (λ z. z ++ history_plan (moved g Undo) ∷ []) i
    ∙ ap (λ z. shown_back (moved h Undo) n ++ replayed z (all_but_last g.standing) ∷ []) o
    ∙ ap (λ z. shown_back (moved h Undo) n ++ replayed h.opened (all_but_last z) ∷ []) s
    ∙ sym (ap (λ (z : History). shown_back z n ++ history_plan z ∷ []) ah)

-- one drawing for each undo
pub back_length : (n : ℕ) (h : History) → length (shown_back h n) ≡ n
back_length zero h = refl
back_length (suc n) h =
    let i = back_length n (history_after h Undo) in
    length_push (shown_back (history_after h Undo) n) (history_plan (history_after h Undo)) ∙ omega arith

-- without the farthest
pub back_drop : (n : ℕ) (h : History) → drop 1 (shown_back h (suc n)) ≡ shown_back h n
back_drop zero h = refl
back_drop (suc n) h =
    let g = history_after h Undo in
    let l = back_length (suc n) g in
    drop-append-le 1 (shown_back g (suc n)) (history_plan g ∷ []) (omega arith) ∙ ap (λ z. z ++ history_plan g ∷ []) (back_drop n g)

-- without the k farthest
pub back_drops : (k n m : ℕ) (h : History) → n ≡ m + k → drop k (shown_back h n) ≡ shown_back h m
back_drops zero n m h e = let f : n ≡ m = omega arith in ap (shown_back h) f
back_drops (suc k) n m h e =
    let f : n ≡ suc (m + k) = omega arith in
    let two : 1 + k ≡ suc k = omega arith in
    ap (λ z. drop z (shown_back h n)) (sym two)
    ∙ sym (drop-drop k 1 (shown_back h n))
    ∙ ap (λ z. drop k (drop 1 (shown_back h z))) f
    ∙ ap (drop k) (back_drop (m + k) h)
    ∙ back_drops k (m + k) m h refl
