-- A change of a view is the same change of the history that it stands for. Assumes nothing.
use Rattle.std.proofs.Common.{◌≡◌, ℕ, suc, ◌+◌, ◌-◌, ◌<◌, ◌≤◌, min, false, eqb, List, [], ◌∷◌, ◌++◌, length, get_or, drop, Ok, Err, sym, refl, ap, ◌∙◌, subst, add-one, arith}
use Rattle.std.proofs.lemmas.List.{length-drop, length_push, drop-append-le}
use Rattle.std.proofs.lemmas.Bool.Decides.{nat_tests}
use Rattle.drawing.specs.declared.words.Edit.{Edit}
use Rattle.drawing.specs.Plans.{Plan}
use Rattle.drawing.specs.Edits.{Reply, first_reason, made}
use Rattle.drawing.proofs.Accepted.{passed}
use Rattle.bundle.specs.declared.changes.Change.{Change}
use Rattle.bundle.specs.declared.changes.Change.TheVariants.{Make, Undo, Redo}
use Rattle.bundle.specs.History.{History, begun, replayed, history_plan, history_reply, history_after, moved, by_reply, all_but_last, last_alone, change_reasons}
use Rattle.bundle.specs.Views.{View, bare_view, view_reply, view_moved, view_after}
use Rattle.bundle.specs.Stands.{StandsFor, shown_back, shown_on}
use Rattle.bundle.proofs.Ends.{ended, but_last_push, get_d_last, length_but_last}
use Rattle.bundle.proofs.Backs.{after_undo, after_redo, redo_undo, undo_redo, undone_some, back_same, back_length, back_drops}

-- one more standing edit
pub replayed_push : (p : Plan) (es : List Edit) (e : Edit) → replayed p (es ++ e ∷ []) ≡ made (replayed p es) e
replayed_push p [] e = refl
replayed_push p (x ∷ es) e = replayed_push (made p x) es e

-- a bundle with no history stands for the history that begins with its drawing
pub begun_stands : (p : Plan) → StandsFor (bare_view p) (begun p)
begun_stands p = record { shows = refl; reaches = refl; stand = omega arith; left = refl; back = refl; on = refl }

-- an undo in reach
undo_step : (v : View) (h : History) → 0 < length v.earlier → StandsFor v h → StandsFor (view_moved v Undo) (moved h Undo)
undo_step v h lt m =
    let hr = m.reaches in
    let hs = m.stand in
    let hl = m.left in
    let up : 0 < h.reach = omega arith in
    let some : 0 < length h.standing = omega arith in
    let a : history_after h Undo ≡ moved h Undo = after_undo h up in
    let r : h.reach ≡ suc (h.reach - 1) = omega arith in
    let b : v.earlier ≡ shown_back (moved h Undo) (h.reach - 1) ++ history_plan (moved h Undo) ∷ [] =
    m.back ∙ ap (shown_back h) r ∙ ap (λ (z : History). shown_back z (h.reach - 1) ++ history_plan z ∷ []) a in
    let lu : length (moved h Undo).undone ≡ length h.undone + 1 = undone_some h some in
    let ls = length_but_last h.standing in
    let again : history_after (moved h Undo) Redo ≡ h = ap (λ (z : History). history_after z Redo) (sym a) ∙ redo_undo h up some in
    record {
      shows = ap (λ (z : List Plan). get_or z (length z - 1) v.plan) b ∙ get_d_last (shown_back (moved h Undo) (h.reach - 1)) (history_plan (moved h Undo)) v.plan;
      reaches = length_but_last v.earlier ∙ ap (λ z. z - 1) hr;
      stand = omega arith;
      left = omega arith;
      back = ap all_but_last b ∙ but_last_push (shown_back (moved h Undo) (h.reach - 1)) (history_plan (moved h Undo));
      on =
          ap (λ z. z ∷ v.later) m.shows ∙ ap (λ z. history_plan h ∷ z) m.on
          ∙ sym (ap (shown_on (moved h Undo)) (lu ∙ add-one (length h.undone))
          ∙ ap (λ (z : History). history_plan z ∷ shown_on z (length h.undone)) again);
    }

-- a redo of an undone edit
redo_step : (v : View) (h : History) → 0 < length v.later → StandsFor v h → StandsFor (view_moved v Redo) (moved h Redo)
redo_step v h lt m =
    let hr = m.reaches in
    let hs = m.stand in
    let hl = m.left in
    let some : 0 < length h.undone = omega arith in
    let end = ended h.undone some in
    let a : history_after h Redo ≡ moved h Redo = after_redo h some in
    let u : length h.undone ≡ suc (length h.undone - 1) = omega arith in
    let b : v.later ≡ history_plan (moved h Redo) ∷ shown_on (moved h Redo) (length h.undone - 1) =
    m.on ∙ ap (shown_on h) u ∙ ap (λ (z : History). history_plan z ∷ shown_on z (length h.undone - 1)) a in
    let li : length (all_but_last h.undone) ≡ length h.undone - 1 = length_but_last h.undone in
    let ls : length (h.standing ++ last_alone h.undone) ≡ length h.standing + 1 =
    ap (λ z. length (h.standing ++ z)) end.alone ∙ length_push h.standing end.back in
    let again : history_after (moved h Redo) Undo ≡ h = ap (λ (z : History). history_after z Undo) (sym a) ∙ undo_redo h some in
    record {
      shows = ap (λ (z : List Plan). get_or z 0 v.plan) b;
      reaches = length_push v.earlier v.plan ∙ ap (λ z. z + 1) hr;
      stand = omega arith;
      left = length-drop 1 v.later ∙ omega arith;
      back =
          ap (λ z. z ++ v.plan ∷ []) m.back ∙ ap (λ z. shown_back h h.reach ++ z ∷ []) m.shows
          ∙ sym (ap (shown_back (moved h Redo)) (add-one h.reach) ∙ ap (λ (z : History). shown_back z h.reach ++ history_plan z ∷ []) again);
      on = ap (drop 1) b ∙ ap (shown_on (moved h Redo)) (sym li);
    }

-- the drawings kept before an edit: the last 64 of those that undo went back to and the drawing at hand
kept_back : (h : History) (e : Edit)
    → drop (h.reach + 1 - 64) (shown_back h h.reach ++ history_plan h ∷ []) ≡ shown_back (moved h (Make e)) (min (h.reach + 1) 64)
kept_back h e =
    let g = moved h (Make e) in
    let k = h.reach + 1 - 64 in
    let m = min (h.reach + 1) 64 - 1 in
    let up : 0 < min (h.reach + 1) 64 = omega arith in
    let s : min (h.reach + 1) 64 ≡ suc (min (h.reach + 1) 64 - 1) = omega arith in
    let n : h.reach ≡ min (h.reach + 1) 64 - 1 + (h.reach + 1 - 64) = omega arith in
    let l = back_length h.reach h in
    let le : h.reach + 1 - 64 ≤ length (shown_back h h.reach) = omega arith in
    let a : history_after (moved h (Make e)) Undo ≡ moved (moved h (Make e)) Undo = after_undo (moved h (Make e)) up in
    let t : all_but_last (h.standing ++ e ∷ []) ≡ h.standing = but_last_push h.standing e in
    drop-append-le k (shown_back h h.reach) (history_plan h ∷ []) le
    ∙ ap (λ z. z ++ history_plan h ∷ []) (back_drops k h.reach m h n ∙ sym (back_same m (moved (moved h (Make e)) Undo) h refl t (omega arith) (omega arith)))
    ∙ ap (λ z. shown_back (moved (moved h (Make e)) Undo) m ++ replayed h.opened z ∷ []) (sym t)
    ∙ sym (ap (shown_back g) s ∙ ap (λ (z : History). shown_back z m ++ history_plan z ∷ []) a)

-- an accepted edit
edit_step : (v : View) (h : History) (e : Edit) → StandsFor v h → StandsFor (view_moved v (Make e)) (moved h (Make e))
edit_step v h e m =
    let hr = m.reaches in
    let hs = m.stand in
    let n = length v.earlier + 1 - 64 in
    let ls : length (h.standing ++ e ∷ []) ≡ length h.standing + 1 = length_push h.standing e in
    let lp = length_push v.earlier v.plan in
    record {
      shows = ap (λ z. made z e) m.shows ∙ sym (replayed_push h.opened h.standing e);
      reaches = length-drop n (v.earlier ++ v.plan ∷ []) ∙ omega arith;
      stand = omega arith;
      left = refl;
      back =
          ap (λ z. drop (z + 1 - 64) (v.earlier ++ v.plan ∷ [])) hr
          ∙ ap (λ z. drop (h.reach + 1 - 64) (z ++ v.plan ∷ [])) m.back
          ∙ ap (λ z. drop (h.reach + 1 - 64) (shown_back h h.reach ++ z ∷ [])) m.shows
          ∙ kept_back h e;
      on = refl;
    }

-- a number that is not 0
pub not_none : (n : ℕ) → eqb n 0 ≡ false → 0 < n
not_none n e = grind (arith, nat_tests)

-- an accepted change
moves : (v : View) (c : Change) (h : History) → view_reply v c ≡ Ok tt → StandsFor v h → StandsFor (view_moved v c) (moved h c)
moves v (Make e) h ok m = edit_step v h e m
moves v Undo h ok m = undo_step v h (not_none (length v.earlier) (passed _ _ _ ok).0) m
moves v Redo h ok m = redo_step v h (not_none (length v.later) (passed _ _ _ ok).0) m

-- the replies are the same
replies : (v : View) (c : Change) (h : History) → StandsFor v h → view_reply v c ≡ history_reply h c
replies v c h m =
    ap (λ (z : Plan). first_reason (change_reasons z (length v.earlier) (length v.later) c)) m.shows
    ∙ ap (λ (z : ℕ). first_reason (change_reasons (history_plan h) z (length v.later) c)) m.reaches
    ∙ ap (λ (z : ℕ). first_reason (change_reasons (history_plan h) h.reach z c)) m.left

-- either way of a reply
either_way : (v n : View) (h k : History) (r : Reply) → StandsFor v h → (r ≡ Ok tt → StandsFor n k) → StandsFor (by_reply r v n) (by_reply r h k)
either_way v n h k (Ok u) m f = f refl
either_way v n h k (Err why) m f = m

-- a change of a view and of a history that it stands for
pub step : (v : View) (c : Change) (h : History) → StandsFor v h → (view_reply v c ≡ history_reply h c) × StandsFor (view_after v c) (history_after h c)
step v c h m =
    let same = replies v c h m in (
      same,
      subst (λ (r : Reply). StandsFor (view_after v c) (by_reply r h (moved h c))) same
          (either_way v (view_moved v c) h (moved h c) (view_reply v c) m (λ ok. moves v c h ok m)),
    )
