-- What a bundle shows, and what a change makes of that. Assumes nothing.
use Rattle.std.specs.Prelude.{ℕ, ◌+◌, ◌-◌, List, [], ◌∷◌, ◌++◌, length, take, drop, slice_index_or}
use Rattle.drawing.specs.Plans.{Plan}
use Rattle.drawing.specs.Edits.{Reply, first_reason, made}
use Rattle.bundle.specs.declared.changes.Change.{Change}
use Rattle.bundle.specs.declared.changes.Change.TheVariants.{Make, Undo, Redo}
use Rattle.bundle.specs.History.{change_reasons, all_but_last, by_reply}

-- what a bundle shows: its drawing, the drawings that undo goes back to, the latest last, and those that redo goes on to, the nearest first
pub record View : Type 0 where
  pub plan : Plan
  pub earlier : List Plan
  pub later : List Plan

-- a drawing with a timeline whose first places are earlier drawings and the next ones later drawings
abbrev pub view_of : Plan → List Plan → ℕ → ℕ → View
view_of p line undos redos = record { plan = p; earlier = take undos line; later = take redos (drop undos line) }

-- a drawing with no history
abbrev pub bare_view : Plan → View
bare_view p = record { plan = p; earlier = []; later = [] }

-- the reply to a change: its first refusal or none
abbrev pub view_reply : View → Change → Reply
view_reply v c = first_reason (change_reasons v.plan (length v.earlier) (length v.later) c)

-- what an accepted change makes of the view: an edit keeps the drawing before it, and the last 64 of those kept; undo and redo go to the
-- nearest drawing on their side and leave the present one on the other
abbrev pub view_moved : View → Change → View
view_moved v (Make e) =
    record { plan = made v.plan e; earlier = drop (length v.earlier + 1 - 64) (v.earlier ++ v.plan ∷ []); later = [] }
view_moved v Undo =
    record { plan = slice_index_or v.earlier (length v.earlier - 1) v.plan; earlier = all_but_last v.earlier; later = v.plan ∷ v.later }
view_moved v Redo = record { plan = slice_index_or v.later 0 v.plan; earlier = v.earlier ++ v.plan ∷ []; later = drop 1 v.later }

-- the view after a change: a refused one changes nothing
abbrev pub view_after : View → Change → View
view_after v c = by_reply (view_reply v c) v (view_moved v c)
