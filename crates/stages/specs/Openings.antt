-- Stage 0 in the table: one state for each first space that the grid has and the channel has room for. Assumes nothing.
use Rattle.std.specs.Prelude.{◌≡◌, ℕ, ◌<◌, ◌≤◌, true, List, [], length, Some, None, Option}
use Rattle.drawing.specs.declared.words.Grid.{Grid}
use Rattle.pricing.specs.Allocations.{is_step_of}
use Rattle.pricing.specs.Measures.{Measure}
use Rattle.frontier.specs.declared.records.State.{State}
use Rattle.frontier.specs.Stages.{start, starts}
use Rattle.stages.specs.Table.{stated, slot}

module _ {V : Type 0} (m : Measure V) (grid : Grid) (channel : ℕ) where
  -- a state of stage 0: a first space of the grid that the channel has room for, with no wire and from nowhere
  pub record Begins (x : State V) : Type 0 where
    pub step : is_step_of grid.spaces x.last ≡ true
    pub room : x.last ≤ channel
    pub is : x ≡ stated (start m x.last) 0 0

  -- the places before end hold the states of the first spaces before s, in rising order
  pub record Opening (s : ℕ) (t : List (State V)) (end : ℕ) : Type 0 where
    pub high : end ≤ length t
    pub begins : (k : ℕ) → k < end → Begins (slot m t k)
    pub earlier : (k : ℕ) → k < end → (slot m t k).last < s
    pub whole : (r : ℕ) → r < s → is_step_of grid.spaces r ≡ true → r ≤ channel → (k : ℕ) × (k < end) × ((slot m t k).last ≡ r)
    pub rising : (k k' : ℕ) → k < k' → k' < end → (slot m t k).last < (slot m t k').last

  -- the states of the first spaces before s stand in the table, or those of all first spaces outnumber it
  abbrev pub Begun : ℕ → List (State V) → Option ℕ → Type 0
  Begun s t None = length t < length (starts m (record { grid = grid; channel = channel; wires = [] }))
  Begun s t (Some end) = Opening s t end
