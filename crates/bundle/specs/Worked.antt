-- Histories worked out by the definitions. Assumes nothing.
use Rattle.std.specs.Prelude.{◌≡◌, List, [], ◌∷◌, ◌++◌, length, replicate, Ok, Err}
use Rattle.drawing.specs.declared.refusals.Refusal.TheVariants.{PlaceBeyondEnd, NothingToUndo, NothingToRedo}
use Rattle.drawing.specs.declared.words.Edit.TheVariants.{Insert, SetChannel}
use Rattle.drawing.specs.declared.words.Grid.{Grid}
use Rattle.drawing.specs.declared.words.Wire.{Wire}
use Rattle.drawing.specs.Edits.{bare, opened}
use Rattle.bundle.specs.declared.changes.Change.{Change}
use Rattle.bundle.specs.declared.changes.Change.TheVariants.{Make, Undo, Redo}
use Rattle.bundle.specs.History.{History, begun, history_plan}
use Rattle.bundle.specs.Runs.{history_after_all, history_replies}

-- a wire
abbrev pub q : Wire
q = record { a = 1; b = 2; g = 30; d = 1; e = 2; k = 3; h = 5; t = 70000 }

-- widths and spaces of 2 and 3 steps
abbrev pub twos_and_threes : Grid
twos_and_threes = record { widths = 6; spaces = 6 }

-- a channel of 9 steps with no wires, just opened
abbrev pub nine : History
nine = begun (bare twos_and_threes 9)

-- an insert, an undo, an insert that is refused, and a redo
abbrev pub redone : List Change
redone = Make (Insert 0 q) ∷ Undo ∷ Make (Insert 5 q) ∷ Redo ∷ []

-- 70 edits, which change nothing and stand all the same, and then 65 undos
abbrev pub seventy : List Change
seventy = replicate 70 (Make (SetChannel 9)) ++ replicate 65 Undo

-- the opening is accepted; the redo after the refused insert is accepted, and the wire stands again; with no history there is nothing to undo or
-- redo; after 70 edits 64 undos are accepted and the 65th is not, and 6 edits still stand
pub record WorkedHistory : Type 0 where
  pub opens : opened twos_and_threes 9 ≡ Ok (bare twos_and_threes 9)
  pub redo_accepted : history_replies nine redone ≡ Ok tt ∷ Ok tt ∷ Err PlaceBeyondEnd ∷ Ok tt ∷ []
  pub redo_shows : (history_plan (history_after_all nine redone)).wires ≡ q ∷ []
  pub none_yet : history_replies nine (Undo ∷ Redo ∷ []) ≡ Err NothingToUndo ∷ Err NothingToRedo ∷ []
  pub sixty_five : history_replies nine seventy ≡ replicate 134 (Ok tt) ++ Err NothingToUndo ∷ []
  pub six_stand : length (history_after_all nine seventy).standing ≡ 6
