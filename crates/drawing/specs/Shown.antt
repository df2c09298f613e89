-- A drawing as code holds it, and what it shows. Assumes nothing.
use Rattle.std.specs.Prelude.{◌≡◌, false, take, is_ok, Ok, Err, Result}
use Rattle.drawing.specs.declared.drawings.Drawing.{Drawing}
use Rattle.drawing.specs.declared.words.Edit.{Edit}
use Rattle.drawing.specs.Plans.{Plan}
use Rattle.drawing.specs.Edits.{Reply, edit_reply, edited}

-- what a drawing shows: the wires are the first `count` of its places
abbrev pub plan_of : Drawing → Plan
plan_of d = record { grid = d.grid; channel = d.channel; wires = take d.count d.wires }

-- what a drawing that was asked for shows, or why it was refused
abbrev pub planned : {E : Type 0} → Result Drawing E → Result Plan E
planned (Ok d) = Ok (plan_of d)
planned (Err why) = Err why

-- what an edit replies and leaves: the reply is the first refusal of its order or none; accepted, the edit is made; refused, the drawing is
-- equal to what it was
pub record Edits (was became : Drawing) (r : Reply) (e : Edit) : Type 0 where
  pub reply : r ≡ edit_reply (plan_of was) e
  pub shows : plan_of became ≡ edited r (plan_of was) e
  pub refused : is_ok r ≡ false → became ≡ was
