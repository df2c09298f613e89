-- All the stages of a plan, one behind the other in the table, and how each state was made. Assumes nothing.
use Rattle.std.specs.Prelude.{◌≡◌, ℕ, zero, suc, ◌<◌, ◌≤◌, List, length, Some, None, Option, slice_index_or}
use Rattle.drawing.specs.declared.words.Grid.{Grid}
use Rattle.drawing.specs.declared.words.Wire.{Wire}
use Rattle.drawing.specs.Plans.{Plan}
use Rattle.pricing.specs.Allocations.{Book}
use Rattle.pricing.specs.Measures.{Measure}
use Rattle.frontier.specs.declared.records.State.{State}
use Rattle.frontier.specs.States.{kept_up_to, kept_states}
use Rattle.stages.specs.Table.{slot, Made}
use Rattle.stages.specs.Stage.{at_stage, Stage}
use Rattle.stages.specs.Openings.{Begins}

-- a grid, a channel and wires
abbrev pub drawn : Grid → ℕ → List Wire → Plan
drawn grid channel qs = record { grid = grid; channel = channel; wires = qs }

module _ {V : Type 0} (m : Measure V) (book : Book) (d : Plan) where
  -- where the stage j begins: behind the kept states of all stages before it
  abbrev pub cut : ℕ → ℕ
  cut zero = 0
  cut (suc j) = kept_up_to m book d j

  -- the states of stage 0 begin, and each state of a stage up to n is made from the state of the stage before that it names, by its
  -- width and its last space
  pub record Chain (t : List (State V)) (n : ℕ) : Type 0 where
    pub begins : (i : ℕ) → i < cut 1 → Begins m d.grid d.channel (slot m t i)
    pub made : (j i : ℕ) (q : Wire) → j < n → q ≡ slice_index_or d.wires j q → cut (suc j) ≤ i → i < cut (suc (suc j)) →
        Made m book d.grid d.channel q t (cut j) (cut (suc j)) (slot m t i)

  -- the stages 0 to n stand one behind the other, the stage n at the places from a on and before b
  pub record Whole (reach : ℕ → V → Type 0) (n : ℕ) (t : List (State V)) (a b : ℕ) : Type 0 where
    pub stage : Stage m reach book (at_stage d n) t a b
    pub begin_at : a ≡ cut n
    pub end_at : b ≡ cut (suc n)
    pub chain : Chain t n

  -- all stages stand in the table and the last one is told, or the kept states of all stages outnumber the table
  abbrev pub Ended : (ℕ → V → Type 0) → List (State V) → Option (ℕ × ℕ) → Type 0
  Ended reach t None = length t < kept_states m book d
  Ended reach t (Some r) = Whole reach (length d.wires) t r.0 r.1
