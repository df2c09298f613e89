-- What holds of every run of changes, over the plain history. Assumes nothing.
use Rattle.std.specs.Prelude.{◌≡◌, ℕ, ◌+◌, ◌≤◌, List, [], ◌∷◌, ◌++◌, length, replicate, Ok, Err}
use Rattle.drawing.specs.declared.refusals.Refusal.{Refusal}
use Rattle.drawing.specs.declared.refusals.Refusal.TheVariants.{NothingToUndo, NothingToRedo}
use Rattle.drawing.specs.declared.words.Edit.{Edit}
use Rattle.drawing.specs.declared.words.Grid.{Grid}
use Rattle.drawing.specs.Plans.{Plan, Sound}
use Rattle.drawing.specs.Edits.{opened}
use Rattle.bundle.specs.declared.changes.Change.{Change}
use Rattle.bundle.specs.declared.changes.Change.TheVariants.{Make, Undo, Redo}
use Rattle.bundle.specs.History.{History, begun, history_plan, history_reply, history_after}
use Rattle.bundle.specs.Runs.{history_after_all, history_replies, history_plans}

-- the history that changes lead to from a drawing with no history
abbrev pub run_from : Plan → List Change → History
run_from p cs = history_after_all (begun p) cs

-- every drawing that a run shows is sound, undo reaches no further than edits stand, and at most 64 edits are in reach of undo and redo
pub record AlwaysSound : Type 0 where
  pub opened_sound : (grid : Grid) (channel : ℕ) (p : Plan) → opened grid channel ≡ Ok p → (cs : List Change) → Sound (history_plan (run_from p cs))
  pub given_sound : (p : Plan) → Sound p → (cs : List Change) → Sound (history_plan (run_from p cs))
  pub in_reach : (p : Plan) (cs : List Change) → (run_from p cs).reach ≤ length (run_from p cs).standing
  pub at_most : (p : Plan) (cs : List Change) → (run_from p cs).reach + length (run_from p cs).undone ≤ 64

-- an undo right after an accepted edit is accepted; the edits that stand and the drawing are those before the edit, and the edit alone is undone
pub record TakenBack (h g : History) (e : Edit) : Type 0 where
  pub reply : history_reply g Undo ≡ Ok tt
  pub plan : history_plan (history_after g Undo) ≡ history_plan h
  pub standing : (history_after g Undo).standing ≡ h.standing
  pub undone : (history_after g Undo).undone ≡ e ∷ []

-- after every edit that any history accepts, an undo takes back that edit
abbrev pub UndoTakesBack : Type 0
UndoTakesBack = (h : History) (e : Edit) → history_reply h (Make e) ≡ Ok tt → TakenBack h (history_after h (Make e)) e

-- k undos, as many as are in reach or fewer, and then k redos, after any run: all are accepted, and the history is the one they began with;
-- and so for k redos, as many as edits are undone or fewer, and then k undos
pub record UndosThenRedos : Type 0 where
  pub there_and_back : (p : Plan) (cs : List Change) (k : ℕ) → k ≤ (run_from p cs).reach
      → (history_after_all (run_from p cs) (replicate k Undo ++ replicate k Redo) ≡ run_from p cs)
      × (history_replies (run_from p cs) (replicate k Undo ++ replicate k Redo) ≡ replicate (k + k) (Ok tt))
  pub on_and_back : (p : Plan) (cs : List Change) (k : ℕ) → k ≤ length (run_from p cs).undone
      → (history_after_all (run_from p cs) (replicate k Redo ++ replicate k Undo) ≡ run_from p cs)
      × (history_replies (run_from p cs) (replicate k Redo ++ replicate k Undo) ≡ replicate (k + k) (Ok tt))

-- after any run as many undos in a row are accepted as the reach says, and the next is 17; as many redos as edits are undone, and the next is 18
pub record ReachCounts : Type 0 where
  pub undos : (p : Plan) (cs : List Change)
      → history_replies (run_from p cs) (replicate (run_from p cs).reach Undo ++ Undo ∷ [])
      ≡ replicate (run_from p cs).reach (Ok tt) ++ Err NothingToUndo ∷ []
  pub redos : (p : Plan) (cs : List Change)
      → history_replies (run_from p cs) (replicate (length (run_from p cs).undone) Redo ++ Redo ∷ [])
      ≡ replicate (length (run_from p cs).undone) (Ok tt) ++ Err NothingToRedo ∷ []

-- a refused change between others: after any changes that follow it the history is the same without it, and so are their replies and the
-- drawings that they show
pub record SameWithout (h : History) (c : Change) (why : Refusal) (cs : List Change) : Type 0 where
  pub last : history_after_all h (c ∷ cs) ≡ history_after_all h cs
  pub replies : history_replies h (c ∷ cs) ≡ Err why ∷ history_replies h cs
  pub plans : history_plans h (c ∷ cs) ≡ history_plan h ∷ history_plans h cs

-- after every refused change, in any history, what follows is the same without it
abbrev pub RefusedLeavesNothing : Type 0
RefusedLeavesNothing = (h : History) (c : Change) (why : Refusal) (cs : List Change) → history_reply h c ≡ Err why → SameWithout h c why cs
