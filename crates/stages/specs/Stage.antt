-- The stage of a drawing in the table, and the next. Assumes nothing.
use Rattle.std.specs.Prelude.{◌≡◌, ℕ, suc, ◌-◌, ◌*◌, ◌<◌, ◌≤◌, true, List, length, take, Some, None, Option, slice_index_or}
use Rattle.drawing.specs.declared.words.Grid.{Grid}
use Rattle.drawing.specs.declared.words.Wire.{Wire}
use Rattle.drawing.specs.Plans.{Plan, Sound}
use Rattle.pricing.specs.Allocations.{Book}
use Rattle.pricing.specs.Measures.{Measure}
use Rattle.frontier.specs.declared.records.State.{State}
use Rattle.frontier.specs.Orders.{upto}
use Rattle.frontier.specs.States.{Kept, first, kept, KeptRow}
use Rattle.stages.specs.Table.{Step, rows, slot, at, Made}

-- a plan, and how many of its wires are laid
pub record Course : Type 0 where
  pub plan : Plan
  pub stage : ℕ

-- one wire more is laid
abbrev pub onward : Course → Course
onward w = record { plan = w.plan; stage = suc w.stage }

-- the stage j of a plan
abbrev pub at_stage : Plan → ℕ → Course
at_stage d j = record { plan = d; stage = j }

module _ {V : Type 0} (m : Measure V) (reach : ℕ → V → Type 0) (book : Book) where
  -- what the states of stage j keep
  pub record Fits (channel j : ℕ) (s : Kept V) : Type 0 where
    pub last : Step s.last
    pub used : s.used ≤ channel
    pub power : s.power ≤ j * 480000
    pub near : reach j s.delay

  -- the places from a on and before b hold the kept states of the stage, those of one last space in order
  pub record Stage (w : Course) (t : List (State V)) (a b : ℕ) : Type 0 where
    pub low : a ≤ b
    pub high : b ≤ length t
    pub row : KeptRow m book (first w.stage w.plan) (rows t a b)
    pub fits : (i : ℕ) → a ≤ i → i < b → Fits w.plan.channel w.stage (at m t i)
    pub ordered : (i k : ℕ) → a ≤ i → i < k → k < b → (at m t i).last ≡ (at m t k).last → upto m (at m t i) (at m t k) ≡ true

  -- the next wire is q
  pub record AheadOf (w : Course) (grid : Grid) (channel : ℕ) (q : Wire) (t : List (State V)) (a b : ℕ) : Type 0 where
    pub same_grid : w.plan.grid ≡ grid
    pub same_channel : w.plan.channel ≡ channel
    pub sound : Sound w.plan
    pub inside : w.stage < length w.plan.wires
    pub wire : q ≡ slice_index_or w.plan.wires w.stage q
    pub stage : Stage w t a b

  -- the next stage stands behind this one, each state with where it comes from; or its states outnumber the room
  abbrev pub Onward : Course → Grid → ℕ → Wire → List (State V) → List (State V) → ℕ → ℕ → Option ℕ → Type 0
  Onward w grid channel q t t' a b None = length t' - b < length (kept m book w.plan (suc w.stage))
  Onward w grid channel q t t' a b (Some end) =
      (take b t' ≡ take b t) × Stage (onward w) t' b end × ((k : ℕ) → b ≤ k → k < end → Made m book grid channel q (take b t) a b (slot m t' k))
