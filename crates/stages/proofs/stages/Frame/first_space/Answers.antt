-- The space is without room, or written.
use Rattle.std.proofs.Common.{sym, arith}
use Rattle.stages.proofs.Openings.{opening_put, opening_full}
use Rattle.stages.proofs.stages.Frame.first_space.Goals as goal

pub returns-then-end-table : goal.returns-then-end-table
returns-then-end-table g c =
    opening_full _ _ _ c.requires (sym c.if-not-in_grid.ensures) (omega (arith, c.if-space-self.false)) (omega (arith, c.if-end-table.true, c.requires.high))

pub returns : goal.returns
returns g c =
    opening_put _ _ _ c.requires (sym c.if-not-in_grid.ensures) (omega (arith, c.if-space-self.false)) c.if-end-table.false c.first_state.ensures
