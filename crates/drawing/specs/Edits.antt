-- What opening and the five edits make of a drawing, and what refuses them first. Assumes nothing.
use Rattle.std.specs.Prelude.{ℕ, ◌+◌, Bool, cond, List, [], ◌∷◌, length, Ok, Err, Result, nat_le, nat_lt, slice_set}
use Rattle.std.specs.List.{insert, remove}
use Rattle.drawing.specs.declared.words.Grid.{Grid}
use Rattle.drawing.specs.declared.words.Edit.{Edit}
use Rattle.drawing.specs.declared.words.Edit.TheVariants.{Insert, Remove, Replace, SetGrid, SetChannel}
use Rattle.drawing.specs.declared.refusals.Refusal.{Refusal}
use Rattle.drawing.specs.declared.refusals.Refusal.TheVariants.{PlaceBeyondEnd, NumberAboveLimit, BundleFull, BadGrid, BadChannel, TooNarrow}
use Rattle.drawing.specs.Plans.{Plan, over_limit, bad_grid, bad_channel, too_narrow}

-- the answer to a call that gives nothing back but whether it was refused
abbrev pub Reply : Type 0
Reply = Result (Unit {0}) Refusal

-- the refusal of the first test that says yes, in the order of the list
abbrev pub first_reason : List (Bool × Refusal) → Reply
first_reason [] = Ok tt
first_reason (r ∷ rs) = cond r.0 (Err r.1) (first_reason rs)

-- a value, unless it is refused
abbrev pub unless_refused : {X : Type 0} → Reply → X → Result X Refusal
unless_refused (Ok u) x = Ok x
unless_refused (Err why) x = Err why

-- what refuses opening, in order
abbrev pub open_reasons : Grid → ℕ → List (Bool × Refusal)
open_reasons grid channel =
    (bad_grid grid, BadGrid)
    ∷ (bad_channel channel, BadChannel)
    ∷ (too_narrow grid channel 0, TooNarrow)
    ∷ []

-- a drawing of no wires
abbrev pub bare : Grid → ℕ → Plan
bare grid channel = record { grid = grid; channel = channel; wires = [] }

-- opening: a drawing of no wires, or the first refusal
abbrev pub opened : Grid → ℕ → Result Plan Refusal
opened grid channel = unless_refused (first_reason (open_reasons grid channel)) (bare grid channel)

-- what refuses an edit, in order
abbrev pub edit_reasons : Plan → Edit → List (Bool × Refusal)
edit_reasons p (Insert place wire) =
    (nat_lt (length p.wires) place, PlaceBeyondEnd)
    ∷ (over_limit wire, NumberAboveLimit)
    ∷ (nat_le 24 (length p.wires), BundleFull)
    ∷ (too_narrow p.grid p.channel (length p.wires + 1), TooNarrow)
    ∷ []
edit_reasons p (Remove place) = (nat_le (length p.wires) place, PlaceBeyondEnd) ∷ []
edit_reasons p (Replace place wire) =
    (nat_le (length p.wires) place, PlaceBeyondEnd)
    ∷ (over_limit wire, NumberAboveLimit)
    ∷ []
edit_reasons p (SetGrid grid) =
    (bad_grid grid, BadGrid)
    ∷ (too_narrow grid p.channel (length p.wires), TooNarrow)
    ∷ []
edit_reasons p (SetChannel channel) =
    (bad_channel channel, BadChannel)
    ∷ (too_narrow p.grid channel (length p.wires), TooNarrow)
    ∷ []

-- the reply to an edit
abbrev pub edit_reply : Plan → Edit → Reply
edit_reply p e = first_reason (edit_reasons p e)

-- a drawing with an edit made: an inserted wire moves those from its place on to the right
abbrev pub made : Plan → Edit → Plan
made p (Insert place wire) = record { grid = p.grid; channel = p.channel; wires = insert p.wires place wire }
made p (Remove place) = record { grid = p.grid; channel = p.channel; wires = remove p.wires place }
made p (Replace place wire) = record { grid = p.grid; channel = p.channel; wires = slice_set p.wires place wire }
made p (SetGrid grid) = record { grid = grid; channel = p.channel; wires = p.wires }
made p (SetChannel channel) = record { grid = p.grid; channel = channel; wires = p.wires }

-- a drawing after an edit: a refused one changes nothing
abbrev pub edited : Reply → Plan → Edit → Plan
edited (Ok u) p e = made p e
edited (Err why) p e = p
