-- Which history a bundle stands for. Assumes nothing.
use Rattle.std.specs.Prelude.{◌≡◌, ℕ, zero, suc, ◌≤◌, List, [], ◌∷◌, ◌++◌, length}
use Rattle.drawing.specs.Plans.{Plan, Sound}
use Rattle.bundle.specs.declared.changes.Change.{Change}
use Rattle.bundle.specs.declared.changes.Change.TheVariants.{Undo, Redo}
use Rattle.bundle.specs.History.{History, begun, history_plan, history_after}
use Rattle.bundle.specs.Runs.{history_after_all}
use Rattle.bundle.specs.Views.{View}

-- what the history shows after each of n undos, the first of them last
abbrev pub shown_back : History → ℕ → List Plan
shown_back h zero = []
shown_back h (suc n) = shown_back (history_after h Undo) n ++ history_plan (history_after h Undo) ∷ []

-- what the history shows after each of n redos
abbrev pub shown_on : History → ℕ → List Plan
shown_on h zero = []
shown_on h (suc n) = history_plan (history_after h Redo) ∷ shown_on (history_after h Redo) n

-- a view stands for a history: it shows the history's drawing; it has as many drawings to go back to as undos are in reach, which are no more
-- than the standing edits, and as many to go on to as edits are undone; the former are what the history shows after each of so many undos,
-- the latter after each of so many redos
pub record StandsFor (v : View) (h : History) : Type 0 where
  pub shows : v.plan ≡ history_plan h
  pub reaches : length v.earlier ≡ h.reach
  pub stand : h.reach ≤ length h.standing
  pub left : length v.later ≡ length h.undone
  pub back : v.earlier ≡ shown_back h h.reach
  pub on : v.later ≡ shown_on h (length h.undone)

-- P holds of every history for which the view stands
abbrev pub OfHistory : View → (History → Type 0) → Type 0
OfHistory v P = (h : History) → StandsFor v h → P h

-- a drawing to open with, and changes from there that lead to a history for which the view stands
pub record LedTo (v : View) : Type 0 where
  pub opened : Plan
  pub changes : List Change
  pub sound : Sound opened
  pub stands : StandsFor v (history_after_all (begun opened) changes)
