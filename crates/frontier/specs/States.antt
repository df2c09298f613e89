-- The partial allocations of a plan, stage by stage, and the states that are kept of them. Assumes nothing.
use Rattle.std.specs.Prelude.{◌≡◌, ℕ, zero, suc, ◌+◌, Bool, true, ◌&&◌, ◌↔◌, List, [], ◌∷◌, map, length, take, ◌==◌, nat_le}
use Rattle.drawing.specs.declared.words.Wire.{Wire}
use Rattle.drawing.specs.Plans.{Plan}
use Rattle.pricing.specs.Allocations.{Allocation, Book, lawful, used_width}
use Rattle.pricing.specs.Measures.{Measure}
use Rattle.pricing.specs.Prices.{total_power, joined_delay}
use Rattle.frontier.specs.declared.records.State.{State}
use Rattle.frontier.specs.Lists.{◌∈◌, undominated, Fresh}
use Rattle.frontier.specs.Points.{lawful_allocations}

-- what counts of a partial allocation: its last space, its used width, its power and its delay
pub record Kept (V : Type 0) : Type 0 where
  pub last : ℕ
  pub used : ℕ
  pub power : ℕ
  pub delay : V

-- what counts of a state that the code holds
abbrev pub kept_of : {V : Type 0} → State V → Kept V
kept_of s = record { last = s.last; used = s.used; power = s.power; delay = s.delay }

-- the last of the spaces, where l stands before them
abbrev pub last_of : ℕ → List ℕ → ℕ
last_of l [] = l
last_of l (s ∷ ss) = last_of s ss

-- the stage j of a plan: its first j wires on the same grid in the same channel, whose allocations are the partial allocations of the plan
abbrev pub first : ℕ → Plan → Plan
first j d = record { grid = d.grid; channel = d.channel; wires = take j d.wires }

module _ {V : Type 0} (m : Measure V) where
  -- what counts of an allocation
  abbrev pub state_of : List Wire → Allocation → Kept V
  state_of qs x = record { last = last_of 0 x.spaces; used = used_width x; power = total_power qs x; delay = joined_delay m qs x }

  -- one state is at or below another of the same last space in all three
  abbrev pub state_below : Kept V → Kept V → Bool
  state_below s r =
      (s.last == r.last) && (nat_le s.used r.used && (nat_le s.power r.power && m.below s.delay r.delay))

  -- the states of all lawful allocations of a plan; those of its stage j are the partial allocations
  abbrev pub states : Book → Plan → List (Kept V)
  states book d = map (state_of d.wires) (lawful_allocations book d)

  -- the kept states of the stage j: the distinct ones with no other of the same last space at or below in all three
  abbrev pub kept : Book → Plan → ℕ → List (Kept V)
  kept book d j = undominated state_below (states book (first j d))

  -- the number of kept states over the stages 0 to j
  abbrev pub kept_up_to : Book → Plan → ℕ → ℕ
  kept_up_to book d zero = length (kept book d zero)
  kept_up_to book d (suc j) = kept_up_to book d j + length (kept book d (suc j))

  -- the number of kept states over all stages
  abbrev pub kept_states : Book → Plan → ℕ
  kept_states book d = kept_up_to book d (length d.wires)

  -- a state is kept of a plan: it is that of a lawful allocation, and no other with its last space is at or below it in all three
  pub record IsKept (book : Book) (d : Plan) (s : Kept V) : Type 0 where
    pub of : Allocation
    pub lawful_one : lawful book d of ≡ true
    pub at : state_of d.wires of ≡ s
    pub alone : (x : Allocation) → lawful book d x ≡ true → state_below (state_of d.wires x) s ≡ true → state_of d.wires x ≡ s

  -- a list holds exactly the kept states of a plan, in any order and none twice
  pub record KeptRow (book : Book) (d : Plan) (row : List (Kept V)) : Type 0 where
    pub exactly : (s : Kept V) → (s ∈ row) ↔ IsKept book d s
    pub fresh : Fresh row
