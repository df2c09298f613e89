-- A bundle as code holds it, what it shows, and what its calls promise. Assumes nothing.
use Rattle.std.specs.Prelude.{◌≡◌, ℕ, false, map, is_ok, Ok, Err, Result}
use Rattle.drawing.specs.declared.drawings.Drawing.{Drawing}
use Rattle.drawing.specs.declared.refusals.Refusal.{Refusal}
use Rattle.drawing.specs.declared.words.Grid.{Grid}
use Rattle.drawing.specs.Edits.{Reply, bare, open_reasons, first_reason, unless_refused}
use Rattle.drawing.specs.Shown.{plan_of}
use Rattle.bundle.specs.declared.bundles.Bundle.{Bundle}
use Rattle.bundle.specs.declared.changes.Change.{Change}
use Rattle.bundle.specs.History.{History, begun, change_reasons, history_reply, history_after}
use Rattle.bundle.specs.Views.{View, view_of, bare_view, view_after}
use Rattle.bundle.specs.Stands.{StandsFor, LedTo}

-- what a bundle shows
abbrev pub view : Bundle → View
view b = view_of (plan_of b.drawing) (map plan_of b.timeline) b.reach b.undone

-- a bundle of a drawing, with no history: it stands for the history that begins with the drawing
pub record Given (d : Drawing) (b : Bundle) : Type 0 where
  pub same : b.drawing ≡ d
  pub views : view b ≡ bare_view (plan_of d)
  pub stands : StandsFor (view b) (begun (plan_of d))

-- what a bundle that was asked for shows, or why it was refused
abbrev pub viewed : {E : Type 0} → Result Bundle E → Result View E
viewed (Ok b) = Ok (view b)
viewed (Err why) = Err why

-- opening: no wires and no history, or the first refusal
abbrev pub opened_view : Grid → ℕ → Result View Refusal
opened_view grid channel = unless_refused (first_reason (open_reasons grid channel)) (bare_view (bare grid channel))

-- a bundle that was given stands for the history
abbrev pub Begins : {E : Type 0} → Result Bundle E → History → Type 0
Begins (Ok b) h = StandsFor (view b) h
Begins (Err why) h = Unit {0}

-- the reply to a change, by what the bundle holds: its first refusal or none
abbrev pub bundle_reply : Bundle → Change → Reply
bundle_reply b c = first_reason (change_reasons (plan_of b.drawing) b.reach b.undone c)

-- what a change replies and leaves, of every bundle: the reply is its first refusal or none; the bundle shows what the change makes of what
-- it showed; refused, it is equal to what it was. Of every history that the bundle stood for: the reply is that history's, and the bundle
-- then stands for that history after the change. And there is such a history: changes from an opened drawing led to it
pub record Answers (was became : Bundle) (r : Reply) (c : Change) : Type 0 where
  pub reply : r ≡ bundle_reply was c
  pub views : view became ≡ view_after (view was) c
  pub refused : is_ok r ≡ false → became ≡ was
  pub every : (h : History) → StandsFor (view was) h → (r ≡ history_reply h c) × StandsFor (view became) (history_after h c)
  pub some : ∥ LedTo (view was) ∥₁
