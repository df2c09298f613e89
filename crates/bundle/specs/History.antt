-- The plain history of a bundle: what it keeps, what refuses each change, and what a change makes of it. Assumes nothing.
use Rattle.std.specs.Prelude.{ℕ, ◌+◌, ◌-◌, min, Bool, List, [], ◌∷◌, ◌++◌, length, take, drop, Ok, Err, ◌==◌}
use Rattle.drawing.specs.declared.words.Edit.{Edit}
use Rattle.drawing.specs.declared.refusals.Refusal.{Refusal}
use Rattle.drawing.specs.declared.refusals.Refusal.TheVariants.{NothingToUndo, NothingToRedo}
use Rattle.drawing.specs.Plans.{Plan}
use Rattle.drawing.specs.Edits.{Reply, first_reason, edit_reasons, made}
use Rattle.bundle.specs.declared.changes.Change.{Change}
use Rattle.bundle.specs.declared.changes.Change.TheVariants.{Make, Undo, Redo}

-- what the plain history keeps: the drawing as it was opened, the edits that stand and those that are undone, each in their order,
-- and how many undos are in reach
pub record History : Type 0 where
  pub opened : Plan
  pub standing : List Edit
  pub undone : List Edit
  pub reach : ℕ

-- the history of a drawing that was just opened
abbrev pub begun : Plan → History
begun p = record { opened = p; standing = []; undone = []; reach = 0 }

-- a drawing with edits made in order
abbrev pub replayed : Plan → List Edit → Plan
replayed p [] = p
replayed p (e ∷ es) = replayed (made p e) es

-- what the history shows: the opened drawing with the standing edits made afresh in order
abbrev pub history_plan : History → Plan
history_plan h = replayed h.opened h.standing

-- what refuses a change, in order: an edit as it does of the drawing at hand, an undo if none is in reach, a redo if no edit is undone
abbrev pub change_reasons : Plan → ℕ → ℕ → Change → List (Bool × Refusal)
change_reasons p undos redos (Make e) = edit_reasons p e
change_reasons p undos redos Undo = ((undos == 0), NothingToUndo) ∷ []
change_reasons p undos redos Redo = ((redos == 0), NothingToRedo) ∷ []

-- the reply to a change: its first refusal or none
abbrev pub history_reply : History → Change → Reply
history_reply h c = first_reason (change_reasons (history_plan h) h.reach (length h.undone) c)

-- all of a list but its last
abbrev pub all_but_last : {X : Type 0} → List X → List X
all_but_last xs = take (length xs - 1) xs

-- the last of a list, alone
abbrev pub last_alone : {X : Type 0} → List X → List X
last_alone xs = drop (length xs - 1) xs

-- what an accepted change makes of the history: an edit comes to the end of those that stand, empties the undone list and raises the reach
-- by 1 up to 64; an undo moves the last standing edit to the end of the undone list, a redo the last undone one back
abbrev pub moved : History → Change → History
moved h (Make e) = record { opened = h.opened; standing = h.standing ++ e ∷ []; undone = []; reach = min (h.reach + 1) 64 }
moved h Undo =
    record { opened = h.opened; standing = all_but_last h.standing; undone = h.undone ++ last_alone h.standing; reach = h.reach - 1 }
moved h Redo =
    record { opened = h.opened; standing = h.standing ++ last_alone h.undone; undone = all_but_last h.undone; reach = h.reach + 1 }

-- what was, where the reply is a refusal, and else what comes next
abbrev pub by_reply : {X : Type 0} → Reply → X → X → X
by_reply (Ok u) was next = next
by_reply (Err why) was next = was

-- the history after a change: a refused one changes nothing
abbrev pub history_after : History → Change → History
history_after h c = by_reply (history_reply h c) h (moved h c)
