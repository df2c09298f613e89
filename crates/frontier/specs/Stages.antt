-- One wire more behind a state, and what the kept states are for. Assumes nothing.
use Rattle.std.specs.Prelude.{◌≡◌, ℕ, suc, ◌+◌, ◌<◌, Bool, ◌&&◌, leb, ◌↔◌, List, [], map, length, nat_le, slice_index_or}
use Rattle.drawing.specs.declared.words.Grid.{Grid}
use Rattle.drawing.specs.declared.words.Wire.{Wire}
use Rattle.drawing.specs.Lists.{keep}
use Rattle.drawing.specs.Plans.{Plan}
use Rattle.drawing.specs.Steps.{steps}
use Rattle.pricing.specs.Allocations.{Laid, Book}
use Rattle.pricing.specs.Measures.{Measure}
use Rattle.pricing.specs.Prices.{join_wire}
use Rattle.pricing.specs.WirePrices.{wire_power}
use Rattle.frontier.specs.declared.records.Point.{Point}
use Rattle.frontier.specs.Lists.{◌∈◌, Rising, Fresh, each, undominated}
use Rattle.frontier.specs.Points.{at_or_below, prices}
use Rattle.frontier.specs.Curves.{power_at, curve}
use Rattle.frontier.specs.States.{Kept, first, state_below, kept, KeptRow}

-- the power and the delay of a state
abbrev pub point_at : {V : Type 0} → Kept V → Point V
point_at s = record { power = s.power; delay = s.delay }

-- the width w and the space r may follow a state: the book admits them after its last space, and the channel has room
abbrev pub may_follow : {V : Type 0} → Book → ℕ → Kept V → ℕ → ℕ → Bool
may_follow book channel s w r = book s.last w r && nat_le (s.used + w + r) channel

module _ {V : Type 0} (m : Measure V) where
  -- a state with the wire q of width w behind it and the space r after that
  abbrev pub extended : Wire → Kept V → ℕ → ℕ → Kept V
  extended q s w r =
      let y : Laid = record { wire = q; left = s.last; width = w; right = r } in
      record { last = r; used = s.used + w + r; power = s.power + wire_power y; delay = join_wire m s.delay y }

  -- a state with the wire q behind it, in every way that may follow
  abbrev pub extensions : Book → Grid → ℕ → Wire → Kept V → List (Kept V)
  extensions book grid channel q s =
      each (λ w. map (extended q s w) (keep (may_follow book channel s w) (steps grid.spaces))) (steps grid.widths)

  -- a state of no wire: its first space
  abbrev pub start : ℕ → Kept V
  start r = record { last = r; used = r; power = 0; delay = m.empty }

  -- the states of no wire: each first space that the channel has room for
  abbrev pub starts : Plan → List (Kept V)
  starts d = map start (keep (λ r. leb r d.channel) (steps d.grid.spaces))

  -- the starts are the kept states of stage 0
  abbrev pub RowFirst : Book → Plan → Type 0
  RowFirst book d =
      (row : List (Kept V)) → Fresh row → ((s : Kept V) → (s ∈ row) ↔ (s ∈ starts d)) → KeptRow m book (first 0 d) row

  -- the kept states of a stage, each with the next wire behind it, less those that are beaten, are the kept states of the next stage
  abbrev pub RowNext : Book → Plan → Type 0
  RowNext book d =
      (j : ℕ) (q : Wire) → j < length d.wires → q ≡ slice_index_or d.wires j q
      → (row row' : List (Kept V)) → KeptRow m book (first j d) row → Fresh row'
      → ((s : Kept V) → (s ∈ row') ↔ (s ∈ undominated (state_below m) (each (extensions book d.grid d.channel q) row)))
      → KeptRow m book (first (suc j) d) row'

  -- the prices of the last stage's kept states, less those that are beaten and with power rising, are the curve
  abbrev pub RowLast : Book → Plan → Type 0
  RowLast book d =
      (row : List (Kept V)) → KeptRow m book d row → (points : List (Point V)) → Rising power_at points
      → ((p : Point V) → (p ∈ points) ↔ (p ∈ undominated (at_or_below m) (map point_at row))) → points ≡ curve m book d

  -- the last stage has no kept state exactly where no allocation is lawful
  abbrev pub RowNone : Book → Plan → Type 0
  RowNone book d = (row : List (Kept V)) → KeptRow m book d row → (row ≡ []) ↔ (prices m book d ≡ [])

  -- a list of exactly the kept states of a stage is as long as the stage counts
  abbrev pub KeptCounted : Book → Plan → Type 0
  KeptCounted book d = (j : ℕ) (row : List (Kept V)) → KeptRow m book (first j d) row → length row ≡ length (kept m book d j)

  -- the computed kept states of a stage are exactly its kept states
  abbrev pub KeptIs : Book → Plan → Type 0
  KeptIs book d = (j : ℕ) → KeptRow m book (first j d) (kept m book d j)
