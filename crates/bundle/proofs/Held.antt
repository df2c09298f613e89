-- What holds of a bundle after a change. Assumes nothing.
use Rattle.std.proofs.Common.{◌≡◌, ℕ, ◌+◌, ◌-◌, ◌<◌, ◌≤◌, Bool, false, eqb, List, [], ◌∷◌, ◌++◌, map, length, get_or, take, drop, set, is_ok, Ok, Err, sym, refl, ap, ◌∙◌, subst, arith}
use mathlib.Core.Logic.{∥∥₁_map, ∥∥₁_prop}
use mathlib.Core.HLevel.{is_prop→PathP}
use Rattle.std.proofs.Math.Nat.{ℕ_set}
use Rattle.std.specs.Coded.{le_prop}
use Rattle.std.proofs.lemmas.List.{length-map}
use Rattle.std.proofs.lemmas.Bool.Decides.{nat_tests}
use Rattle.drawing.specs.declared.drawings.Drawing.{Drawing}
use Rattle.drawing.specs.declared.words.Edit.{Edit}
use Rattle.drawing.specs.declared.refusals.Refusal.{Refusal}
use Rattle.drawing.specs.declared.refusals.Refusal.TheVariants.{NothingToUndo, NothingToRedo}
use Rattle.drawing.specs.Edits.{Reply, first_reason, unless_refused}
use Rattle.drawing.specs.Shown.{plan_of, Edits}
use Rattle.drawing.proofs.Sounds.{sound_of}
use Rattle.bundle.specs.declared.bundles.Bundle.{Bundle}
use Rattle.bundle.specs.declared.changes.Change.{Change}
use Rattle.bundle.specs.declared.changes.Change.TheVariants.{Make, Undo, Redo}
use Rattle.bundle.specs.History.{History, begun, history_after, by_reply, change_reasons}
use Rattle.bundle.specs.Runs.{history_after_all}
use Rattle.bundle.specs.Views.{View, view_of, bare_view, view_reply, view_moved, view_after}
use Rattle.bundle.specs.Stands.{StandsFor, LedTo}
use Rattle.bundle.specs.Shown.{view, bundle_reply, Answers}
use Rattle.bundle.proofs.Steps.{step, begun_stands}
use Rattle.bundle.proofs.Lines.{earlier_count, later_count, undo_line, redo_line, edit_line}

-- one more change of a run
pub after_push : (h : History) (cs : List Change) (c : Change) → history_after_all h (cs ++ c ∷ []) ≡ history_after (history_after_all h cs) c
after_push h [] c = refl
after_push h (x ∷ cs) c = after_push (history_after h x) cs c

-- an accepted change
pub accepted : (v n : View) (c : Change) → view_reply v c ≡ Ok tt → n ≡ view_moved v c → n ≡ view_after v c
accepted v n c ok e = e ∙ sym (ap (λ (r : Reply). by_reply r v (view_moved v c)) ok)

-- a refused change
pub refusal : (v : View) (c : Change) (why : Refusal) → view_reply v c ≡ Err why → v ≡ view_after v c
refusal v c why nay = sym (ap (λ (r : Reply). by_reply r v (view_moved v c)) nay)

-- a drawing with no history
pub led_first : (d : Drawing) → LedTo (bare_view (plan_of d))
led_first d = record { opened = plan_of d; changes = []; sound = sound_of d; stands = begun_stands (plan_of d) }

-- what an acceptance gives
pub accepted_is : {X : Type 0} (r : Reply) (x p : X) → unless_refused r x ≡ Ok p → x ≡ p
accepted_is (Ok u) x p e = cc
accepted_is (Err why) x p e = cc

-- what was refused, refused whatever it was
pub refused_too : {X Y : Type 0} (r : Reply) (x : X) (y : Y) (why : Refusal) → unless_refused r x ≡ Err why → unless_refused r y ≡ Err why
refused_too (Ok u) x y why e = let z : ◌≡◌ {A = ℕ} 0 1 = cc in absurd (omega arith)
refused_too (Err w) x y why e = let q : w ≡ why = cc in ap (λ (z : Refusal). Err z) q

-- one more change led on
pub led_on : (v n : View) (c : Change) → ∥ LedTo v ∥₁ → n ≡ view_after v c → ∥ LedTo n ∥₁
led_on v n c s e =
    ∥∥₁_map s
    (λ l.
    record {
      opened = l.opened;
      changes = l.changes ++ c ∷ [];
      sound = l.sound;
      stands =
          subst (λ (h : History). StandsFor n h) (sym (after_push (begun l.opened) l.changes c))
          (subst (λ (z : View). StandsFor z (history_after (history_after_all (begun l.opened) l.changes) c)) (sym e)
          (step v c (history_after_all (begun l.opened) l.changes) l.stands).1);
    })

-- as many earlier drawings as undo reaches
pub undos_count : (b : Bundle) → length (view b).earlier ≡ b.reach
undos_count b =
    let w = b.within in
    let l = b.whole in
    let lm = length-map b.timeline plan_of in
    earlier_count (map plan_of b.timeline) b.reach b.undone (omega arith)

-- as many later drawings as edits are undone
pub redos_count : (b : Bundle) → length (view b).later ≡ b.undone
redos_count b =
    let w = b.within in
    let l = b.whole in
    let lm = length-map b.timeline plan_of in
    later_count (map plan_of b.timeline) b.reach b.undone (omega arith)

-- the reply by what the bundle holds is that by what it shows
pub reply_same : (b : Bundle) (c : Change) → bundle_reply b c ≡ view_reply (view b) c
reply_same b c =
    ap (λ (z : ℕ). first_reason (change_reasons (plan_of b.drawing) z b.undone c)) (sym (undos_count b))
    ∙ ap (λ (z : ℕ). first_reason (change_reasons (plan_of b.drawing) (length (view b).earlier) z c)) (sym (redos_count b))

-- a test of a number that is not 0
pub reply_some : (n : ℕ) (why : Refusal) → 0 < n → first_reason ((eqb n 0, why) ∷ []) ≡ Ok tt
reply_some n why lt =
    let e : eqb n 0 ≡ false = grind (arith, nat_tests) in
    ap (λ (z : Bool). first_reason ((z, why) ∷ [])) e

-- a test of a number that is 0
pub reply_none : (n : ℕ) (why : Refusal) → n ≡ 0 → first_reason ((eqb n 0, why) ∷ []) ≡ Err why
reply_none n why e = ap (λ (z : ℕ). first_reason ((eqb z 0, why) ∷ [])) e

-- an undo in reach: the drawing and the last earlier one are exchanged
pub undo_exchange : (b : Bundle) (then now d : Drawing) → 0 < b.reach → then ≡ get_or b.timeline (b.reach - 1) d → now ≡ b.drawing
    → view_of (plan_of then) (map plan_of (set b.timeline (b.reach - 1) now)) (b.reach - 1) (b.undone + 1) ≡ view_after (view b) Undo
undo_exchange b then now d lt there here =
    let w = b.within in
    let l = b.whole in
    ap (λ (z : Drawing). view_of (plan_of z) (map plan_of (set b.timeline (b.reach - 1) now)) (b.reach - 1) (b.undone + 1)) there
    ∙ ap (λ (z : Drawing). view_of (plan_of (get_or b.timeline (b.reach - 1) d)) (map plan_of (set b.timeline (b.reach - 1) z)) (b.reach - 1) (b.undone + 1)) here
    ∙ accepted (view b) _ Undo (sym (reply_same b Undo) ∙ reply_some b.reach NothingToUndo lt)
    (undo_line b.drawing b.timeline b.reach b.undone d lt (omega arith))

-- a redo of an undone edit: the drawing and the first later one are exchanged
pub redo_exchange : (b : Bundle) (then now d : Drawing) → 0 < b.undone → then ≡ get_or b.timeline b.reach d → now ≡ b.drawing
    → view_of (plan_of then) (map plan_of (set b.timeline b.reach now)) (b.reach + 1) (b.undone - 1) ≡ view_after (view b) Redo
redo_exchange b then now d lt there here =
    let w = b.within in
    let l = b.whole in
    ap (λ (z : Drawing). view_of (plan_of z) (map plan_of (set b.timeline b.reach now)) (b.reach + 1) (b.undone - 1)) there
    ∙ ap (λ (z : Drawing). view_of (plan_of (get_or b.timeline b.reach d)) (map plan_of (set b.timeline b.reach z)) (b.reach + 1) (b.undone - 1)) here
    ∙ accepted (view b) _ Redo (sym (reply_same b Redo) ∙ reply_some b.undone NothingToRedo lt)
    (redo_line b.drawing b.timeline b.reach b.undone d lt (omega arith))

-- an accepted edit: the drawing before it is kept
pub edit_keep : (b : Bundle) (then : Drawing) (more : List Drawing) (on : ℕ) (e : Edit) → Edits b.drawing then (Ok tt) e
    → take on more ≡ drop (b.reach + 1 - 64) (take b.reach b.timeline ++ b.drawing ∷ [])
    → view_of (plan_of then) (map plan_of more) on 0 ≡ view_after (view b) (Make e)
edit_keep b then more on e told past =
    let w = b.within in
    let l = b.whole in
    accepted (view b) _ (Make e) (sym (reply_same b (Make e)) ∙ sym told.reply)
    (edit_line b.drawing then b.timeline more b.reach on b.undone e (omega arith) told.shows past)

-- a bundle whose drawing was put back is the bundle that it was
pub put_back : (b : Bundle) (d : Drawing) (e : d ≡ b.drawing) (whole : length b.timeline ≡ 64) (within : b.reach + b.undone ≤ 64)
    (led : ∥ LedTo (view_of (plan_of d) (map plan_of b.timeline) b.reach b.undone) ∥₁)
    → ◌≡◌ {A = Bundle} (record { drawing = d; timeline = b.timeline; reach = b.reach; undone = b.undone; whole = whole; within = within; led = led }) b
put_back b d e whole within led =
    λ i.
    record {
      drawing = e i;
      timeline = b.timeline;
      reach = b.reach;
      undone = b.undone;
      whole = ℕ_set _ _ whole b.whole i;
      within = le_prop within b.within i;
      led = is_prop→PathP (λ j. ∥ LedTo (view_of (plan_of (e j)) (map plan_of b.timeline) b.reach b.undone) ∥₁) (λ j. ∥∥₁_prop) led b.led i;
    }

-- the promise of a change
pub answers : (was became : Bundle) (r : Reply) (c : Change)
    → r ≡ bundle_reply was c → view became ≡ view_after (view was) c → (is_ok r ≡ false → became ≡ was) → Answers was became r c
answers was became r c reply views refused =
    record {
      reply = reply;
      views = views;
      refused = refused;
      every = λ h m.
          let s = step (view was) c h m in
          (reply ∙ reply_same was c ∙ s.0, subst (λ (z : View). StandsFor z (history_after h c)) (sym views) s.1);
      some = was.led;
    }
