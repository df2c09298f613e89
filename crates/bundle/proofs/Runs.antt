-- Laws of the plain history over whole runs. Assumes nothing.
use Rattle.std.proofs.Common.{◌≡◌, ℕ, zero, suc, ◌+◌, ◌-◌, ◌<◌, ◌≤◌, List, [], ◌∷◌, ◌++◌, reverse, length, replicate, Ok, Err, sym, refl, ap, ◌∙◌, subst, append-nil, add-one, arith}
use Rattle.std.proofs.lemmas.List.{append_assoc, length_push, replicate_more, reverse-append}
use Rattle.drawing.specs.declared.refusals.Refusal.TheVariants.{NothingToUndo, NothingToRedo}
use Rattle.drawing.specs.declared.words.Edit.{Edit}
use Rattle.drawing.specs.declared.words.Grid.{Grid}
use Rattle.drawing.specs.Plans.{Plan, Sound}
use Rattle.drawing.specs.Edits.{Reply, opened, bare, made, first_reason, open_reasons, unless_refused}
use Rattle.drawing.proofs.Accepted.{accepted, passed}
use Rattle.bundle.specs.declared.changes.Change.{Change}
use Rattle.bundle.specs.declared.changes.Change.TheVariants.{Make, Undo, Redo}
use Rattle.bundle.specs.History.{History, begun, replayed, history_plan, history_reply, history_after, moved, by_reply, all_but_last, last_alone}
use Rattle.bundle.specs.Runs.{history_after_all, history_replies, history_plans}
use Rattle.bundle.specs.Laws.{AlwaysSound, UndoTakesBack, UndosThenRedos, RefusedLeavesNothing, ReachCounts, run_from}
use Rattle.bundle.proofs.Ends.{ended, but_last_push, last_push, length_but_last}
use Rattle.bundle.proofs.Backs.{undo_accepted, redo_accepted, after_accepted, after_refused, after_undo, after_redo, undone_some, redo_undo, undo_redo}
use Rattle.bundle.proofs.Steps.{not_none}
use Rattle.bundle.proofs.Held.{after_push, accepted_is, reply_none}

-- what a history keeps however it changes
pub record Steady (h : History) : Type 0 where
  pub reached : h.reach ≤ length h.standing
  pub few : h.reach + length h.undone ≤ 64

-- what holds before a change and after an accepted one holds after every change
pub whatever : (P : History → Type 0) (h : History) (c : Change) → P h → (history_reply h c ≡ Ok tt → P (moved h c)) → P (history_after h c)
whatever P h c old new = go (history_reply h c) refl
  where
    go : (r : Reply) → history_reply h c ≡ r → P (by_reply r h (moved h c))
    go (Ok tt) e = new e
    go (Err why) e = old

-- an accepted change keeps it
steady_moved : (h : History) (c : Change) → Steady h → history_reply h c ≡ Ok tt → Steady (moved h c)
steady_moved h (Make e) s ok =
    let r = s.reached in
    let l = length_push h.standing e in
    record { reached = omega arith; few = omega arith }
steady_moved h Undo s ok =
    let r = s.reached in
    let f = s.few in
    let up : 0 < h.reach = not_none h.reach (passed _ _ _ ok).0 in
    let l = length_but_last h.standing in
    let u = undone_some h (omega arith) in
    record { reached = omega arith; few = omega arith }
steady_moved h Redo s ok =
    let r = s.reached in
    let f = s.few in
    let some : 0 < length h.undone = not_none (length h.undone) (passed _ _ _ ok).0 in
    let end = ended h.undone some in
    let l : length (h.standing ++ last_alone h.undone) ≡ length h.standing + 1 =
    ap (λ z. length (h.standing ++ z)) end.alone ∙ length_push h.standing end.back in
    let u = length_but_last h.undone in
    record { reached = omega arith; few = omega arith }

-- every run keeps it
pub steady : (h : History) (cs : List Change) → Steady h → Steady (history_after_all h cs)
steady h [] s = s
steady h (c ∷ cs) s = steady (history_after h c) cs (whatever Steady h c s (steady_moved h c s))

-- every run from a drawing just opened keeps it
pub run_steady : (p : Plan) (cs : List Change) → Steady (run_from p cs)
run_steady p cs = steady (begun p) cs (record { reached = omega arith; few = omega arith })

-- the edits that stand, and then those that redo would bring back
abbrev line : History → List Edit
line h = h.standing ++ reverse h.undone

-- along a line of edits every drawing is sound
abbrev Along : Plan → List Edit → Type 0
Along p [] = Sound p
Along p (e ∷ es) = Sound p × Along (made p e) es

along_first : (p : Plan) (xs ys : List Edit) → Along p (xs ++ ys) → Along p xs
along_first p [] [] a = a
along_first p [] (y ∷ ys) a = a.0
along_first p (x ∷ xs) ys a = (a.0, along_first (made p x) xs ys a.1)

along_end : (p : Plan) (xs : List Edit) → Along p xs → Sound (replayed p xs)
along_end p [] a = a
along_end p (x ∷ xs) a = along_end (made p x) xs a.1

along_more : (p : Plan) (xs : List Edit) (e : Edit) → Along p xs → Sound (made (replayed p xs) e) → Along p (xs ++ e ∷ [])
along_more p [] e a s = (a, s)
along_more p (x ∷ xs) e a s = (a.0, along_more (made p x) xs e a.1 s)

-- a history along whose line every drawing is sound, and that undo does not outrun
record Fine (h : History) : Type 0 where
  along : Along h.opened (line h)
  reached : Steady h

-- an undo leaves the line
undo_line : (h : History) → 0 < length h.standing → line (moved h Undo) ≡ line h
undo_line h some =
    let end = ended h.standing some in
    let y = end.back in
    ap (λ z. all_but_last h.standing ++ reverse (h.undone ++ z)) end.alone
    ∙ ap (λ z. all_but_last h.standing ++ z) (reverse-append h.undone (y ∷ []))
    ∙ sym (append_assoc (all_but_last h.standing) (y ∷ []) (reverse h.undone))
    ∙ ap (λ z. z ++ reverse h.undone) (sym end.is)

-- a redo leaves the line
redo_line : (h : History) → 0 < length h.undone → line (moved h Redo) ≡ line h
redo_line h some =
    let end = ended h.undone some in
    let y = end.back in
    ap (λ z. (h.standing ++ z) ++ reverse (all_but_last h.undone)) end.alone
    ∙ append_assoc h.standing (y ∷ []) (reverse (all_but_last h.undone))
    ∙ ap (λ z. h.standing ++ z) (sym (ap reverse end.is ∙ reverse-append (all_but_last h.undone) (y ∷ [])))

-- an accepted change keeps every drawing of the line sound
fine_moved : (h : History) (c : Change) → Fine h → history_reply h c ≡ Ok tt → Fine (moved h c)
fine_moved h (Make e) f ok =
    let before = along_first h.opened h.standing (reverse h.undone) f.along in
    let s = accepted (history_plan h) e (along_end h.opened h.standing before) ok in
    record {
      along = subst (Along h.opened) (sym (append-nil (h.standing ++ e ∷ []))) (along_more h.opened h.standing e before s);
      reached = steady_moved h (Make e) f.reached ok;
    }
fine_moved h Undo f ok =
    let up : 0 < h.reach = not_none h.reach (passed _ _ _ ok).0 in
    let r = f.reached.reached in
    record { along = subst (Along h.opened) (sym (undo_line h (omega arith))) f.along; reached = steady_moved h Undo f.reached ok }
fine_moved h Redo f ok =
    let some : 0 < length h.undone = not_none (length h.undone) (passed _ _ _ ok).0 in
    record { along = subst (Along h.opened) (sym (redo_line h some)) f.along; reached = steady_moved h Redo f.reached ok }

-- every run keeps every drawing of the line sound
fine : (h : History) (cs : List Change) → Fine h → Fine (history_after_all h cs)
fine h [] f = f
fine h (c ∷ cs) f = fine (history_after h c) cs (whatever Fine h c f (fine_moved h c f))

-- every drawing of a run from a sound one is sound
pub run_sound : (p : Plan) → Sound p → (cs : List Change) → Sound (history_plan (run_from p cs))
run_sound p s cs =
    let h = run_from p cs in
    let f = fine (begun p) cs (record { along = s; reached = run_steady p [] }) in
    along_end h.opened h.standing (along_first h.opened h.standing (reverse h.undone) f.along)

-- what was given was not refused
given : (r : Reply) (x p : Plan) → unless_refused r x ≡ Ok p → r ≡ Ok tt
given (Ok tt) x p e = refl
given (Err why) x p e = let z : ◌≡◌ {A = ℕ} 0 1 = cc in absurd (omega arith)

-- an opened drawing is sound
pub opened_is_sound : (grid : Grid) (channel : ℕ) (p : Plan) → opened grid channel ≡ Ok p → Sound p
opened_is_sound grid channel p e =
    let good = passed _ _ _ (given (first_reason (open_reasons grid channel)) (bare grid channel) p e) in
    let wide = passed _ _ _ good.1 in
    let fits = passed _ _ _ wide.1 in
    subst Sound (accepted_is (first_reason (open_reasons grid channel)) (bare grid channel) p e)
    (record { gridded = good.0; channelled = wide.0; few = omega arith; limited = refl; fitting = fits.0 })

-- the reply to one more change
replies_push : (h : History) (cs : List Change) (c : Change)
    → history_replies h (cs ++ c ∷ []) ≡ history_replies h cs ++ history_reply (history_after_all h cs) c ∷ []
replies_push h [] c = refl
replies_push h (x ∷ cs) c = ap (λ z. history_reply h x ∷ z) (replies_push (history_after h x) cs c)

-- a change that is accepted, and another that takes it back
record Bounces (c d : Change) (room : History → ℕ) (Good : History → Type 0) (h : History) : Type 0 where
  there : history_reply h c ≡ Ok tt
  good : Good (history_after h c)
  fewer : room (history_after h c) + 1 ≡ room h
  back : history_reply (history_after h c) d ≡ Ok tt
  same : history_after (history_after h c) d ≡ h

-- k changes, and k that take them back
bounced : (c d : Change) (room : History → ℕ) (Good : History → Type 0) → ((h : History) → Good h → 0 < room h → Bounces c d room Good h)
    → (k : ℕ) (h : History) → Good h → k ≤ room h
    → (history_after_all h (replicate k c ++ replicate k d) ≡ h) × (history_replies h (replicate k c ++ replicate k d) ≡ replicate (k + k) (Ok tt))
bounced c d room Good b zero h good le = (refl, refl)
bounced c d room Good b (suc k) h good le =
    let g = history_after h c in
    let one = b h good (omega arith) in
    let f = one.fewer in
    let xs = replicate k c ++ replicate k d in
    let i = bounced c d room Good b k (history_after h c) one.good (omega arith) in
    let e : replicate k c ++ replicate (suc k) d ≡ (replicate k c ++ replicate k d) ++ d ∷ [] =
    ap (λ z. replicate k c ++ z) (sym (replicate_more k d ∙ ap (λ n. replicate n d) (add-one k)))
    ∙ sym (append_assoc (replicate k c) (replicate k d) (d ∷ [])) in
    let n : suc (k + k + 1) ≡ suc k + suc k = omega arith in (
      ap (history_after_all g) e ∙ after_push g xs d ∙ ap (λ (z : History). history_after z d) i.0 ∙ one.same,
      ap (λ z. z ∷ history_replies g (replicate k c ++ replicate (suc k) d)) one.there
          ∙ ap (λ z. Ok tt ∷ history_replies g z) e
          ∙ ap (λ z. Ok tt ∷ z)
          (replies_push g xs d
          ∙ ap (λ (z : History). history_replies g xs ++ history_reply z d ∷ []) i.0
          ∙ ap (λ z. history_replies g xs ++ z ∷ []) one.back
          ∙ ap (λ z. z ++ Ok tt ∷ []) i.1
          ∙ replicate_more (k + k) (Ok tt))
          ∙ ap (λ z. replicate z (Ok tt)) n,
    )

-- a redo takes an undo back
undo_bounces : (h : History) → h.reach ≤ length h.standing → 0 < h.reach → Bounces Undo Redo (λ z. z.reach) (λ z. z.reach ≤ length z.standing) h
undo_bounces h good lt =
    let some : 0 < length h.standing = omega arith in
    let a : moved h Undo ≡ history_after h Undo = sym (after_undo h lt) in
    let l = length_but_last h.standing in
    let u = undone_some h some in
    let le : (moved h Undo).reach ≤ length (moved h Undo).standing = omega arith in
    let up : 0 < length (moved h Undo).undone = omega arith in
    let r : h.reach - 1 + 1 ≡ h.reach = omega arith in
    record {
      there = undo_accepted h lt;
      good = subst (λ (z : History). z.reach ≤ length z.standing) a le;
      fewer = subst (λ (z : History). z.reach + 1 ≡ h.reach) a r;
      back = subst (λ (z : History). history_reply z Redo ≡ Ok tt) a (redo_accepted (moved h Undo) up);
      same = redo_undo h lt some;
    }

-- an undo takes a redo back
redo_bounces : (h : History) → Unit {0} → 0 < length h.undone → Bounces Redo Undo (λ z. length z.undone) (λ z. Unit {0}) h
redo_bounces h good lt =
    let a : moved h Redo ≡ history_after h Redo = sym (after_redo h lt) in
    let l = length_but_last h.undone in
    let up : 0 < (moved h Redo).reach = omega arith in
    let r : length (all_but_last h.undone) + 1 ≡ length h.undone = omega arith in
    record {
      there = redo_accepted h lt;
      good = tt;
      fewer = subst (λ (z : History). length z.undone + 1 ≡ length h.undone) a r;
      back = subst (λ (z : History). history_reply z Undo ≡ Ok tt) a (undo_accepted (moved h Redo) up);
      same = undo_redo h lt;
    }

-- undos in a row
undos_in_row : (n : ℕ) (h : History) → h.reach ≡ n → history_replies h (replicate n Undo ++ Undo ∷ []) ≡ replicate n (Ok tt) ++ Err NothingToUndo ∷ []
undos_in_row zero h e = ap (λ z. z ∷ []) (reply_none h.reach NothingToUndo e)
undos_in_row (suc n) h e =
    let up : 0 < h.reach = omega arith in
    let g : (history_after h Undo).reach ≡ n = ap (λ (z : History). z.reach) (after_undo h up) ∙ omega arith in
    ap (λ z. z ∷ history_replies (history_after h Undo) (replicate n Undo ++ Undo ∷ [])) (undo_accepted h up)
    ∙ ap (λ z. Ok tt ∷ z) (undos_in_row n (history_after h Undo) g)

-- redos in a row
redos_in_row : (n : ℕ) (h : History) → length h.undone ≡ n
    → history_replies h (replicate n Redo ++ Redo ∷ []) ≡ replicate n (Ok tt) ++ Err NothingToRedo ∷ []
redos_in_row zero h e = ap (λ z. z ∷ []) (reply_none (length h.undone) NothingToRedo e)
redos_in_row (suc n) h e =
    let some : 0 < length h.undone = omega arith in
    let l = length_but_last h.undone in
    let g : length (history_after h Redo).undone ≡ n = ap (λ (z : History). length z.undone) (after_redo h some) ∙ omega arith in
    ap (λ z. z ∷ history_replies (history_after h Redo) (replicate n Redo ++ Redo ∷ [])) (redo_accepted h some)
    ∙ ap (λ z. Ok tt ∷ z) (redos_in_row n (history_after h Redo) g)

-- every drawing is sound, and at most 64 edits are in reach
pub always_sound : AlwaysSound
always_sound =
    record {
      opened_sound = λ grid channel p e cs. run_sound p (opened_is_sound grid channel p e) cs;
      given_sound = run_sound;
      in_reach = λ p cs. (run_steady p cs).reached;
      at_most = λ p cs. (run_steady p cs).few;
    }

-- an undo takes back the edit before it
pub undo_takes_back : UndoTakesBack
undo_takes_back h e ok =
    let a : moved h (Make e) ≡ history_after h (Make e) = sym (after_accepted h (Make e) ok) in
    let up : 0 < (moved h (Make e)).reach = omega arith in
    let r = undo_accepted (moved h (Make e)) up in
    let t : all_but_last (h.standing ++ e ∷ []) ≡ h.standing = but_last_push h.standing e in
    let b : history_after (history_after h (Make e)) Undo ≡ moved (moved h (Make e)) Undo =
    ap (λ (z : History). history_after z Undo) (sym a) ∙ after_undo (moved h (Make e)) up in
    record {
      reply = subst (λ (z : History). history_reply z Undo ≡ Ok tt) a r;
      plan = ap history_plan b ∙ ap (replayed h.opened) t;
      standing = ap (λ (z : History). z.standing) b ∙ t;
      undone = ap (λ (z : History). z.undone) b ∙ last_push h.standing e;
    }

-- there and back
pub undos_then_redos : UndosThenRedos
undos_then_redos =
    record {
      there_and_back = λ p cs k le.
          bounced Undo Redo (λ z. z.reach) (λ z. z.reach ≤ length z.standing) undo_bounces k (run_from p cs) (run_steady p cs).reached le;
      on_and_back = λ p cs k le. bounced Redo Undo (λ z. length z.undone) (λ z. Unit {0}) redo_bounces k (run_from p cs) tt le;
    }

-- a refused change leaves nothing behind
pub refused_leaves_nothing : RefusedLeavesNothing
refused_leaves_nothing h c why cs nay =
    let a = after_refused h c why nay in
    record {
      last = ap (λ (z : History). history_after_all z cs) a;
      replies = ap (λ z. z ∷ history_replies (history_after h c) cs) nay ∙ ap (λ (z : History). Err why ∷ history_replies z cs) a;
      plans = ap (λ (z : History). history_plan z ∷ history_plans z cs) a;
    }

-- the reach counts the undos that are accepted in a row
pub reach_counts : ReachCounts
reach_counts =
    record {
      undos = λ p cs. undos_in_row (run_from p cs).reach (run_from p cs) refl;
      redos = λ p cs. redos_in_row (length (run_from p cs).undone) (run_from p cs) refl;
    }
