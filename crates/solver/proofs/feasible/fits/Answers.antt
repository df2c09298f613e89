-- From the row of no wires, wire by wire, to the row of all.
use Rattle.std.proofs.Common.{◌≡◌, ℕ, ◌+◌, ◌<◌, ◌≤◌, true, List, [], ◌∷◌, ◌++◌, length, get_or, take, sym, ◌∙◌, subst, add-one, take_all, take-suc}
use Rattle.drawing.specs.declared.words.Grid.{Grid}
use Rattle.drawing.specs.declared.words.Wire.{Wire}
use Rattle.drawing.specs.Shown.{plan_of}
use Rattle.pricing.specs.Allocations.{Allocation, lawful}
use Rattle.frontier.specs.Bare.{no_wire}
use Rattle.frontier.proofs.Allocations.{drawn}
use Rattle.solver.specs.Least.{Least}
use Rattle.solver.proofs.Stage.{least_first, least_next, least_found, least_each, some_place, place_some}
use Rattle.solver.proofs.NoneLawful.{listed_exactly}
use Rattle.solver.proofs.feasible.fits.Goals as goal

pub rows-init : goal.rows-init
rows-init g c =
    least_first (g.B.RuleBook.admits c.args.book.now) c.grid-grid.result c.channel-channel.result c.first_row-row.result c.first_row-row.ensures

pub rows-preserved : goal.rows-preserved
rows-preserved g c =
    let book = g.B.RuleBook.admits c.args.book.now in
    let qs = (plan_of c.args.drawing.now).wires in
    let grid = c.grid-grid.result in
    let channel = c.channel-channel.result in
    let j = c.rows.index in
    let q = get_or qs j no_wire in
    let here : j < length qs = subst (λ (z : List Wire). j < length z) c.wires-items.ensures c.rows-test.true in
    let more : take (j + 1) qs ≡ take j qs ++ (q ∷ []) = rw add-one (take-suc qs j no_wire here) in
    subst (λ (z : List Wire). Least book (drawn grid channel z) c.push_row-row.result) (sym more)
    (least_next book grid channel (take j qs) q c.rows.row c.push_row-row.result c.rows.invariant c.push_row-row.ensures)

pub returns : goal.returns
returns g c =
    let book = g.B.RuleBook.admits c.args.book.now in
    let d = plan_of c.args.drawing.now in
    let qs = d.wires in
    let grid = c.grid-grid.result in
    let channel = c.channel-channel.result in
    let row = c.rows.row in
    let j = c.rows.index in
    let r = c.some_fits.result in
    let past : length qs ≤ j = subst (λ (z : List Wire). length z ≤ j) c.wires-items.ensures c.rows-test.false in
    let every : take j qs ≡ qs = take_all j qs past in
    let whole : Least book (drawn grid channel qs) row = subst (λ (z : List Wire). Least book (drawn grid channel z) row) every c.rows.invariant in
    let was : Least book d row = subst (λ (z : ℕ). Least book (drawn d.grid z qs) row) c.channel-channel.ensures (subst (λ (z : Grid). Least book (drawn z channel qs) row) c.grid-grid.ensures whole) in
    let found : r ≡ true → (x : Allocation) × (lawful book d x ≡ true) =
    λ t. let f = some_place row (sym c.some_fits.ensures ∙ t) in least_found book d.grid d.channel qs row was f.0 f.1 f.2 in
    let each : (x : Allocation) → lawful book d x ≡ true → r ≡ true =
    λ x t. let f = least_each book d.grid d.channel qs row was x t in c.some_fits.ensures ∙ place_some row f.0 f.1 f.2 in
    record { exact = listed_exactly book d r found each; found = found; each = each }
