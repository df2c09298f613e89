-- An allocation that is counted and in the grid can be gone through wire by wire.
use Rattle.std.proofs.Common.{◌≡◌, ◌+◌, ◌==◌, ◌&&◌, true, List, length, sym, subst, ◌∙◌}
use Rattle.drawing.specs.declared.words.Grid.{Grid}
use Rattle.drawing.specs.declared.words.Wire.{Wire}
use Rattle.drawing.specs.Lists.{all}
use Rattle.drawing.specs.Shown.{plan_of}
use Rattle.drawing.proofs.Sounds.{sound_of}
use Rattle.pricing.specs.Allocations.{counted, in_grid, is_step_of}
use Rattle.pricing.specs.Ready.{Ready}
use Rattle.pricing.proofs.Accepted.{ready_in_grid}
use Rattle.pricing.proofs.allocations.lawful_width.Goals as goal

pub all_admitted-requires : goal.all_admitted-requires
all_admitted-requires g c =
    let plan = plan_of c.args.drawing.now in
    let x = c.args.allocation.now in
    let is_counted : counted plan x ≡ true =
    subst (λ (z : List Wire). (length x.widths == length z && length x.spaces == length z + 1) ≡ true) c.wires-wires.ensures
    (sym c.is_counted.ensures ∙ c.if-not-is_counted.false) in
    let is_in_grid : in_grid plan x ≡ true =
    subst (λ (z : Grid). (all (is_step_of z.widths) x.widths && all (is_step_of z.spaces) x.spaces) ≡ true) c.grid.ensures
    (sym c.is_in_grid.ensures ∙ c.if-not-is_in_grid.false) in
    subst (λ (z : List Wire). Ready z x) (sym c.wires-wires.ensures) (ready_in_grid plan x (sound_of c.args.drawing.now) is_counted is_in_grid)
